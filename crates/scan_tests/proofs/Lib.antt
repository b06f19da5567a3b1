mod ForTests
