mod Answering
mod Filling
