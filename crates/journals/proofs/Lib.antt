mod Nothing
mod Texts
mod Arenas
mod Accepted
mod Ruled
