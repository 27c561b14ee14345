-- The refusals 1, 2 and 3 of lent points: the definitions are those of the crate `sizing_points`.
pub use Rattle.sizing_points.specs.Points.{length_fault, none_fault, numbers_fault, points_fault}
unfoldable pub use Rattle.sizing_points.specs.Points.{bounded}
