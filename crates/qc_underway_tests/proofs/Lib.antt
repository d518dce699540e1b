mod Pairs
