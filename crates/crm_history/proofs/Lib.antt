mod Lines
mod Legal
