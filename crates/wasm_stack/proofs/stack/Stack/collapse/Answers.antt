use Rattle.std.proofs.Common.{◌≡◌, ◌≤◌, ap, sym, ◌∙◌, arith, length, ◌-◌, ◌+◌, ◌++◌, drop, take}
use Rattle.std.specs.Prelude.{reverse}
use Rattle.std.proofs.Math.Seq.{paste}
use Rattle.std.proofs.lemmas.List.{length-reverse}
use Rattle.wasm_stack.proofs.Lists.{reverse_collapse}
use Rattle.wasm_stack.proofs.stack.Stack.collapse.Goals as goal

pub returns : goal.returns
returns g c =
    let xs = c.self.inside.items.items in
    let kept = c.args.kept in
    let below = c.args.below in
    let long : c.len.result ≡ length xs = c.len.ensures ∙ c.self.inside.items.ok.0 in
    let size : length xs ≡ length c.args.self.now = sym (length-reverse xs) ∙ ap length c.self.view_is in
    let h : kept + below ≤ length xs = omega (arith, c.requires) in
    let part : c.self.inside.items.len - (c.len.result - kept) ≡ kept = omega (arith, c.self.inside.items.ok.0) in
    let old = c.args.self.now in
    ap reverse (c.truncate.ensures.items ∙ ap (take (below + kept)) (c.copy_within.ensures.items
    ∙ (ap (λ k. paste xs below (drop (c.len.result - kept) xs) k) part ∙ ap (λ n. paste xs below (drop (n - kept) xs) kept) long)))
    ∙ (reverse_collapse xs kept below h
    ∙ (ap (λ n. take kept (reverse xs) ++ drop (n - below) (reverse xs)) size
    ∙ ap (λ r. take kept r ++ drop (length old - below) r) c.self.view_is))
