mod ForSets
