mod Steppings
