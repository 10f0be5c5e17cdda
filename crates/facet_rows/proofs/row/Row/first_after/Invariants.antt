use Rattle.std.proofs.Common.{take}
use Rattle.std.specs.Prelude.{option_map}
use Rattle.facet_rows.specs.Rows.{number_after, IsLeastMember}
use Rattle.facet_rows.proofs.row.Row.first_after.Given as goal

-- the least of the members so far
abbrev pub invariant-members : goal.invariant-members
invariant-members l = IsLeastMember (take l.member-index l.member-items) (number_after l.after) (option_map (λ m. m.now) l.least)
