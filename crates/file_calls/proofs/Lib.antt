pub mod OneFile
pub mod StepsInTurn
pub mod OneThing
pub mod CallsInTurn
