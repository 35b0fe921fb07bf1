mod Ranged
