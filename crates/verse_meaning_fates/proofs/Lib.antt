mod Fates
