mod Picked
mod Delivering
mod Finishing
mod Unfinished
mod Catalogues
mod LinesRead
mod InTurn
mod OneByOne
