mod ForThreads
