mod Spares
