-- What the frame that runs does to its own, over frames that wait.
use Rattle.std.proofs.Common.{◌≡◌, ℕ, ◌≤◌, List, length, take, sym, ap, subst, ◌∙◌, Bor}
use Rattle.wasm_ast.specs.declared.trees.Instr.{Instr}
use Rattle.wasm_ast.specs.declared.modules.Module.{Module}
use Rattle.wasm_semantics.specs.Operators.{truth}
use Rattle.wasm_semantics.specs.Threads.{Store, Outcome, Goes}
use Rattle.wasm_semantics.specs.Control.{thread_at}
use Rattle.wasm_data.specs.Cuts.{above, under}
use Rattle.wasm_blocks.specs.declared.open.Open.{Open}
use Rattle.wasm_blocks.specs.declared.hot.Hot.{Hot}
use Rattle.wasm_blocks.specs.Rest.{Placed}
use Rattle.wasm_blocks.specs.Runs.{Outer, own_nexts, place, GoesOnAnywhere}
use Rattle.wasm_frames.specs.declared.active.Place.{Place}
use Rattle.wasm_frames.specs.declared.active.Active.{Active}
use Rattle.wasm_frames.specs.Resting.{body_of, frames_at_rest, BeginsAt, AreResting}
use Rattle.wasm_frames.specs.Standing.{held, outer_of, nexts_under, AreWarm, IsStanding, ArePlaced, IsPlaced}
use Rattle.wasm_frames.specs.Turns.{Went}
use Rattle.wasm_frames.proofs.Resting.{same_frames}

-- the frame with other slices and marks
abbrev pub with_hot : Active → Hot → Active
with_hot a hot = record { hot = hot; function = a.function; gives = a.gives }

-- what waits stays, where the array does below the frame that runs, and the stacks do below its own
pub below_stays : (m : Module) (a : Active) (low base : ℕ) (ps : List Place) (cs : List (Bor (List Instr))) (values values' : List ℕ) (os os' : List Open) (ns ns' : List (Bor (List Instr)))
    → IsStanding a (held ps cs values os ns) → IsPlaced m a (held ps cs values os ns)
    → low ≡ a.hot.low → base ≡ a.hot.marks.base → take a.hot.marks.base values' ≡ take a.hot.marks.base values → length values ≤ length values'
    → under low os' ≡ under a.hot.low os → nexts_under low os' ns' ≡ nexts_under a.hot.low os ns
    → (frames_at_rest m ps values (under a.hot.low os) ≡ frames_at_rest m ps values' (under low os'))
    × BeginsAt ps base × AreResting ps values' (under low os') × AreWarm cs ps (under low os') (nexts_under low os' ns') × ArePlaced m cs ps (under low os') (nexts_under low os' ns')
below_stays m a low base ps cs values values' os os' ns ns' s pl e e' deep long others other_nexts =
    let below = same_frames m ps a.hot.marks.base values values' (under a.hot.low os) s.begins s.below deep long in
    let W : List Open → Type 0 = λ xs. AreWarm cs ps xs (nexts_under a.hot.low os ns) in
    let W' : List (Bor (List Instr)) → Type 0 = λ xs. AreWarm cs ps (under low os') xs in
    let P : List Open → Type 0 = λ xs. ArePlaced m cs ps xs (nexts_under a.hot.low os ns) in
    let P' : List (Bor (List Instr)) → Type 0 = λ xs. ArePlaced m cs ps (under low os') xs in (
      sym below.0 ∙ ap (frames_at_rest m ps values') (sym others),
      subst (BeginsAt ps) (sym e') s.begins,
      subst (AreResting ps values') (sym others) below.1,
      subst W' (sym other_nexts) (subst W (sym others) s.warm),
      subst P' (sym other_nexts) (subst P (sym others) pl.below),
    )

pub lifts : (m : Module) (st : Store) (a : Active) (was now : Hot) (ps : List Place) (cs : List (Bor (List Instr))) (values values' : List ℕ) (os os' : List Open) (ns ns' : List (Bor (List Instr))) (out : Outer → Outcome)
    → IsStanding a (held ps cs values os ns) → IsPlaced m a (held ps cs values os ns) → was.low ≡ a.hot.low → was.marks.base ≡ a.hot.marks.base
    → GoesOnAnywhere out was now values values' os os' ns ns' → length values ≤ length values' → Placed (body_of m a.function) now.code.now (own_nexts now.low os' ns') (above now.low os')
    → Went m (out (outer_of m st a (held ps cs values os ns))) st (held ps cs values' os' ns') (with_hot a now)
lifts m st a was now ps cs values values' os os' ns ns' out s pl low base g long placed =
    let others : under now.low os' ≡ under a.hot.low os = ap (λ k. under k os') (g.low) ∙ (g.others ∙ ap (λ k. under k os) low) in
    let other_nexts : nexts_under now.low os' ns' ≡ nexts_under a.hot.low os ns = ap (λ k. nexts_under k os' ns') g.low ∙ (g.other_nexts ∙ ap (λ k. nexts_under k os ns) low) in
    let deep = subst (λ b. take b values' ≡ take b values) base g.deep in
    let below = below_stays m a now.low now.marks.base ps cs values values' os os' ns ns' s pl (g.low ∙ low) (g.base ∙ base) deep long others other_nexts in
    record {
      is = g.on (outer_of m st a (held ps cs values os ns)) ∙ ap (λ fs. Goes (thread_at (place (record { store = st; gives = truth a.gives; frames = fs }) now values' os' ns'))) below.0;
      stands = record { here = g.stands; begins = below.1; below = below.2; warm = below.3 };
      placed = record { here = placed; below = below.4 };
    }
