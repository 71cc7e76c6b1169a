-- The places on a trail, and the trail that each step makes of it.
use Rattle.std.specs.Prelude.{◌+◌, ◌-◌, min, List, replicate, slice_set, take}
use Rattle.std.proofs.Common.{arith, zero-le}
use Rattle.std.proofs.Math.Nat.{min-le_right}
use Rattle.controller.specs.declared.place.Place.{Place}
use Rattle.tree.specs.declared.trail.Trail.{Trail}

-- those that were filled, the oldest first; what stands past them is none of the trail
abbrev pub places_of : Trail → List Place
places_of t = take t.depth t.places

-- What stands past them is said too, so that of equal trails each step makes equal ones. First, a trail on which no place ever was.
abbrev pub unused : Trail
unused = record { places = replicate 64 (record { memory = 0; observation = 0 }); depth = 0; deep = zero-le }

-- The place is written behind the others, if there is room.
abbrev pub longer : Place → Trail → Trail
longer p t = record { places = slice_set t.places t.depth p; depth = min (t.depth + 1) 64; deep = min-le_right (t.depth + 1) 64 }

-- The last place counts no longer, and nothing is written.
abbrev pub shorter : Trail → Trail
shorter t = record { places = t.places; depth = t.depth - 1; deep = omega (arith, t.deep) }
