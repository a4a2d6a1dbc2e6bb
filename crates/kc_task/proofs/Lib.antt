mod Passing
mod TaskLaw
mod TaskPlaces
