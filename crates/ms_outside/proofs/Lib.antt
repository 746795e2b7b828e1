mod Copied
mod Parts
mod Histories
