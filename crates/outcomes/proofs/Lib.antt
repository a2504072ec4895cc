mod Finding
mod Splitting
