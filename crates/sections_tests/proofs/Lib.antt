mod Banks
mod Seeing
