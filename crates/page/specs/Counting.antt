-- A plane while hits are counted into it. (Contracts of private functions speak of it.)
-- Assumes nothing.
use Rattle.std.specs.Prelude.{◌+◌, List}
use Rattle.event.specs.declared.Row.{Row}
use Rattle.page_layout.specs.Plane.{hits_at, Plane, plane_of, at}

-- the plane with the hits of rows
abbrev pub with_hits : List Row → Plane → Plane
with_hits rs plane = plane_of (λ p. at plane p + hits_at p rs)
