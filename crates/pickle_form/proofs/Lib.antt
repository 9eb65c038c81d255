mod ReadingLemmas
mod HalfLemmas
mod PlacedLemmas
mod NearestLemmas
