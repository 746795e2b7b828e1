mod Standing
mod Turning
mod Firsts
mod Parameters
mod Started
mod Reaching
