mod Rowing
mod Filling
mod Creating
