mod Pieces
mod Statuses
