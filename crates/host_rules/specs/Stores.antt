-- The store of the host: what is read of its writes, which writes fit, and its facets in the end.
use Rattle.std.specs.Prelude.{ℕ, Bool, List, Option, map}
use Rattle.facet_list.specs.Store.{Write, Facet, facets}
use Rattle.facet_list.specs.Store as writes
use Rattle.facet_list.specs.Room as room
use Rattle.trapeze_lines.specs.declared.line.Line.{Line}
use Rattle.trapeze_lines.specs.declared.line.Kind.TheVariants as kind
use Rattle.trapeze_lines.specs.Lines.{line_at}
use Rattle.host_rules.specs.Rules.{Rules}

-- the latest visible facet: the value of the last write of the key whose label flows to c, absent where there is none
abbrev pub read : Rules → ℕ → List ℕ → List Write → Option (List ℕ)
read P c key w = writes.read P.flows c key w

-- a write that fits: the live facets at its label after it are within the label's limits
abbrev pub fits : Rules → List Write → Write → Bool
fits P w x = room.fits P.limits w x

-- the line of a facet
abbrev pub facet_line : Facet → Line
facet_line f = line_at f.0.1 (kind.Facet f.0.0 f.1)

-- the facets in the end: a line for each live facet, by key in byte order and then by label
abbrev pub facet_lines : List Write → List Line
facet_lines w = map facet_line (facets w)
