pub mod PlaneRange
