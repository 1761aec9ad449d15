mod Weights
