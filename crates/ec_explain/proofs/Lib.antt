mod Behind
mod LinesLeft
mod Holding
mod Rounds
