mod Building
mod Compiling
mod Filling
mod Gaining
mod Places
