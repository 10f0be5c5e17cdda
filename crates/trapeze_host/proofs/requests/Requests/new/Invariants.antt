use Rattle.std.proofs.Common.{◌≡◌, replicate}
use Rattle.std.specs.Prelude.{map}
use Rattle.trapeze_host.proofs.requests.Requests.new.Given as goal

-- so many labels have one word each, without a mark
abbrev pub invariant-labels : goal.invariant-labels
invariant-labels l = map (λ words. words.items) l.marks.items ≡ replicate l._label (replicate 1 0)
