-- What each way to go on in the frames needs.
use Rattle.std.proofs.Common.{◌≡◌, ℕ, List, [], ◌∷◌, ◌++◌, length, sym, subst, ◌∙◌}
use Rattle.std.specs.Prelude.{Some, slice_get, zero, suc}
use Rattle.std.proofs.lemmas.List.{append-nil}
use Rattle.wasm_ast.specs.declared.val_types.ValType.{ValType}
use Rattle.wasm_ast.specs.declared.trees.Instr.{Instr}
use Rattle.wasm_ast.specs.declared.modules.Module.{Module}
use Rattle.wasm_ast.specs.Spaces.{Function, own}
use Rattle.wasm_ast.specs.Typing.{context_of, Types}
use Rattle.wasm_semantics.specs.Threads.{Store, Level, Frame, Goes, Stuck}
use Rattle.wasm_semantics.specs.Control.{Spot, thread_at, spot_in, at_level, level_with, handed, hand, finish, branch, leave_to}
use Rattle.wasm_semantics.specs.OfModule.{Holds, IsStore, Shape, labels_of, Target, Levels, IsFrame, Frames, IsOf, Sound}
use Rattle.wasm_semantics.proofs.Values.{holds_append}
use Rattle.wasm_semantics.proofs.Combinators.{split_rule}

-- the frame that runs, apart from its locals and its levels, and those below
pub record Inside (m : Module) (kept : ℕ) (fs : List Frame) : Type 0 where
  pub index : ℕ
  pub function : Function
  pub member : own m index ≡ Some function
  pub gives : kept ≡ length function.signature.results
  pub frames : Frames m fs function.signature.results

-- and its innermost level, apart from its values and its code
pub record Here (m : Module) (gives : ℕ) (fs : List Frame) (l : Level) (ls : List Level) : Type 0 where
  pub inside : Inside m gives fs
  pub shape : Shape
  pub others : List Shape
  pub target : Target (context_of m inside.function) shape.takes l.keeps l.target others
  pub levels : Levels (context_of m inside.function) ls others shape.leaves

-- the numbers of a frame's locals have their types
abbrev pub HasLocals : {m : Module} {gives : ℕ} {fs : List Frame} → Inside m gives fs → List ℕ → Type 0
HasLocals {m = m} i locals = Holds (context_of m i.function).locals locals

pub goes_rule : {m : Module} {gives : ℕ} {fs : List Frame} {l : Level} {ls : List Level} (h : Here m gives fs l ls) (st : Store) (locals values : List ℕ) (rest : List Instr) (stands : List ValType)
    → IsStore m st → HasLocals h.inside locals → Holds stands values → Types (context_of m h.inside.function) (labels_of (h.shape ∷ h.others)) rest stands h.shape.leaves
    → IsOf m (thread_at (record { store = st; locals = locals; gives = gives; frames = fs; level = level_with l values rest; levels = ls }))
goes_rule h st locals values rest stands hs hl hv t = record {
  store = hs;
  running = (
    record {
      index = h.inside.index;
      function = h.inside.function;
      member = h.inside.member;
      locals = hl;
      gives = h.inside.gives;
      first = record { stands = stands; leaves = h.shape.leaves; takes = h.shape.takes };
      others = h.others;
      levels = (record { values = hv; code = t; target = h.target }, h.levels);
    },
    h.inside.frames,
  );
}

hand_level_rule : {m : Module} (g : Frame) {gs : List Frame} (i : Inside m g.gives gs) (st : Store) (kept : List ℕ) (ts : List ValType) (s : Shape) (ss : List Shape) (levels : List Level)
    → IsStore m st → HasLocals i g.locals → Levels (context_of m i.function) levels (s ∷ ss) ts → Holds ts kept → Sound m (handed kept (spot_in st g gs levels))
hand_level_rule g i st kept ts s ss [] hs hl lv h = absurd lv
hand_level_rule g i st kept ts s ss (l ∷ ls) hs hl lv h =
    goes_rule {l = l} (record { inside = i; shape = s; others = ss; target = lv.0.target; levels = lv.1 }) st g.locals (kept ++ l.values) l.code (ts ++ s.stands)
    hs hl (holds_append ts s.stands kept l.values h lv.0.values) lv.0.code

-- a frame apart from its locals and its levels
abbrev pub inside_of : (m : Module) (f : Frame) (fs : List Frame) (above : List ValType) (r : IsFrame m f above) → Frames m fs r.function.signature.results → Inside m f.gives fs
inside_of m f fs above r fr = record { index = r.index; function = r.function; member = r.member; gives = r.gives; frames = fr }

hand_rule : (m : Module) (st : Store) (kept : List ℕ) (fs : List Frame) (ts : List ValType) → IsStore m st → Frames m fs ts → Holds ts kept → Sound m (hand st kept fs)
hand_rule m st kept [] ts hs fr h = tt
hand_rule m st kept (g ∷ gs) ts hs fr h = hand_level_rule g (inside_of m g gs ts fr.0 fr.1) st kept ts fr.0.first fr.0.others g.levels hs fr.0.locals fr.0.levels h

-- a place whose store and locals have the types of the module and of the frame's function
pub record Stood {m : Module} (p : Spot) (i : Inside m p.gives p.frames) : Type 0 where
  pub store : IsStore m p.store
  pub locals : HasLocals i p.locals

pub finish_rule : {m : Module} (p : Spot) (i : Inside m p.gives p.frames) (values : List ℕ) (below : List ValType) → IsStore m p.store
    → Holds (i.function.signature.results ++ below) values → Sound m (finish p values)
finish_rule {m = m} p i values below hs h =
    split_rule (Sound m) Stuck p.gives i.function.signature.results below values (λ kept rest. hand p.store kept p.frames) h i.gives
    (λ kept rest hk hr. hand_rule m p.store kept p.frames i.function.signature.results hs i.frames hk)

pub leave_rule : {m : Module} (p : Spot) (i : Inside m p.gives p.frames) (ls : List Level) (ss : List Shape) (ts : List ValType) → Stood p i
    → Levels (context_of m i.function) ls ss ts → Holds ts p.level.values → Sound m (leave_to p ls)
leave_rule p i [] [] ts g lv h = finish_rule p i p.level.values [] g.store (subst (λ x. Holds x p.level.values) (lv ∙ sym (append-nil i.function.signature.results)) h)
leave_rule p i [] (s ∷ ss) ts g lv h = absurd lv
leave_rule p i (o ∷ os) [] ts g lv h = absurd lv
leave_rule p i (o ∷ os) (s ∷ ss) ts g lv h =
    goes_rule {l = o} (record { inside = i; shape = s; others = ss; target = lv.0.target; levels = lv.1 }) p.store p.locals (p.level.values ++ o.values) o.code (ts ++ s.stands)
    g.store g.locals (holds_append ts s.stands p.level.values o.values h lv.0.values) lv.0.code

same_some : {A : Type 0} (x y : A) → Some x ≡ Some y → x ≡ y
same_some x y e = cc

pub branch_rule : {m : Module} (p : Spot) (i : Inside m p.gives p.frames) (n : ℕ) (values : List ℕ) (l : Level) (ls : List Level) (takes : List ValType) (ss : List Shape) (leaves ts below : List ValType)
    → Stood p i → Target (context_of m i.function) takes l.keeps l.target ss → Levels (context_of m i.function) ls ss leaves → slice_get (takes ∷ labels_of ss) n ≡ Some ts
    → Holds (ts ++ below) values → Sound m (branch p n values (l ∷ ls))
branch_rule p i n values l [] takes (s ∷ ss) leaves ts below g tg lv e h = absurd lv
branch_rule p i n values l (o ∷ os) takes [] leaves ts below g tg lv e h = absurd lv
branch_rule p i (suc n) values l [] takes [] leaves ts below g tg lv e h = cc
branch_rule p i (suc n) values l (o ∷ os) takes (s ∷ ss) leaves ts below g tg lv e h = branch_rule p i n values o os s.takes ss s.leaves ts below g lv.0.target lv.1 e h
branch_rule p i zero values l [] takes [] leaves ts below g tg lv e h =
    finish_rule p i values below g.store (subst (λ x. Holds (x ++ below) values) (sym (same_some takes ts e) ∙ tg) h)
branch_rule {m = m} p i zero values l (o ∷ os) takes (s ∷ ss) leaves ts below g tg lv e h =
    split_rule (Sound m) Stuck l.keeps takes below values (λ kept rest. Goes (thread_at (at_level p (level_with o (kept ++ o.values) l.target) os))) (subst (λ x. Holds (x ++ below) values) (sym (same_some takes ts e)) h) tg.0
    (λ kept rest hk hr.
    goes_rule {l = o} (record { inside = i; shape = s; others = ss; target = lv.0.target; levels = lv.1 }) p.store p.locals (kept ++ o.values) l.target (takes ++ s.stands)
    g.store g.locals (holds_append takes s.stands kept o.values hk lv.0.values) tg.1)
