-- Instructions that choose where to go on.
use Rattle.std.proofs.Common.{◌≡◌, ℕ, List, [], ◌∷◌, ◌++◌, length, get_or, refl, sym, subst, ◌∙◌}
use Rattle.std.specs.Prelude.{Option, Some, None, slice_get, reverse, nat_eq, if◌then◌else◌, zero, suc, option_to_list}
use Rattle.std.proofs.lemmas.List.{reverse-reverse, length-reverse}
use Rattle.wasm_ast.specs.declared.val_types.ValType.{ValType}
use Rattle.wasm_ast.specs.declared.val_types.ValType.TheVariants.{I32}
use Rattle.wasm_ast.specs.declared.trees.Seq.{Seq}
use Rattle.wasm_ast.specs.declared.trees.Instr.{Instr}
use Rattle.wasm_ast.specs.declared.trees.Instr.TheOpen.{Instr-F}
use Rattle.wasm_ast.specs.Trees.{Layer}
use Rattle.wasm_ast.specs.declared.func_types.FuncType.{FuncType}
use Rattle.wasm_ast.specs.declared.imports.Import.{Import}
use Rattle.wasm_ast.specs.declared.modules.Module.{Module}
use Rattle.wasm_ast.specs.Spaces.{Function, imported_type, own, type_of}
use Rattle.wasm_ast.specs.Typing.{Context, context_of, results, Lead, Plain, Types}
use Rattle.wasm_ast.specs.Validity.{Valid}
use Rattle.wasm_ast.specs.declared.hosts.HostName.{HostName}
use Rattle.wasm_ast.specs.Hosts.{host_named, host_params, host_results, same_type}
use Rattle.wasm_semantics.specs.declared.traps.Trap.TheVariants as trap
use Rattle.wasm_semantics.specs.Data.{with_top, split}
use Rattle.wasm_semantics.specs.Threads.{Trapped, Stuck}
use Rattle.wasm_semantics.specs.Control.{Spot, onto, branch_at, enter, opened, asked, call_of, call, indirect, level_with, zeros}
use Rattle.wasm_semantics.specs.Units.{act}
use Rattle.wasm_semantics.specs.OfModule.{Holds, labels_of, Sound}
use Rattle.wasm_semantics.proofs.Values.{holds_append, holds_reverse, holds_zeros}
use Rattle.wasm_ast.proofs.Valids.{type_is, own_typed, Lent, lent, Owned, owned, host_at, type_of_import}
use Rattle.wasm_semantics.proofs.Combinators.{top_rule, some_rule, if_rule, split_rule}
use Rattle.wasm_semantics.proofs.Frames.{Here, Stood, goes_rule, finish_rule, branch_rule}

-- the thread before an instruction, the types that the instruction finds and leaves, and what follows it
pub record Next (m : Module) (p : Spot) : Type 0 where
  pub here : Here m p.gives p.frames p.level p.levels
  pub stood : Stood p here.inside
  pub before : List ValType
  pub after : List ValType
  pub values : Holds before p.level.values
  pub onward : Types (context_of m here.inside.function) (labels_of (here.shape ∷ here.others)) p.level.code after here.shape.leaves

abbrev pub within : {m : Module} {p : Spot} → Next m p → Context
within {m = m} x = context_of m x.here.inside.function

abbrev pub labels : {m : Module} {p : Spot} → Next m p → List (List ValType)
labels x = labels_of (x.here.shape ∷ x.here.others)

abbrev pub Takes : {m : Module} {p : Spot} → Next m p → Layer → Type 0
Takes x y = Plain (within x) (labels x) y x.before x.after

onto_rule : {m : Module} {p : Spot} (x : Next m p) (values : List ℕ) → Holds x.after values → Sound m (onto p values)
onto_rule {p = p} x values h = goes_rule x.here p.store p.locals values p.level.code x.after x.stood.store x.stood.locals h x.onward

branch_at_rule : {m : Module} {p : Spot} (x : Next m p) (n : ℕ) (values : List ℕ) (ts below : List ValType) → slice_get (labels x) n ≡ Some ts → Holds (ts ++ below) values → Sound m (branch_at p n values)
branch_at_rule {p = p} x n values ts below e h =
    branch_rule p x.here.inside n values p.level p.levels x.here.shape.takes x.here.others x.here.shape.leaves ts below x.stood x.here.target x.here.levels e h

-- a block opens, with what stays below
enter_rule : {m : Module} {p : Spot} (x : Next m p) (values : List ℕ) (below takes leaves : List ValType) (code target : List Instr) → Holds below values → x.after ≡ leaves ++ below
    → Types (within x) (takes ∷ labels x) code [] leaves → Types (within x) (labels x) target (takes ++ below) x.here.shape.leaves → Sound m (enter p values code (length takes) target)
enter_rule {p = p} x values below takes leaves code target h e t u =
    goes_rule {l = record { values = []; code = []; keeps = length takes; target = target }} {ls = level_with p.level values p.level.code ∷ p.levels}
    (record {
      inside = x.here.inside;
      shape = record { stands = []; leaves = leaves; takes = takes };
      others = record { stands = below; leaves = x.here.shape.leaves; takes = x.here.shape.takes } ∷ x.here.others;
      target = (refl, u);
      levels = (record { values = h; code = subst (λ ts. Types (within x) (labels x) p.level.code ts x.here.shape.leaves) e x.onward; target = x.here.target }, x.here.levels);
    }) p.store p.locals [] code [] x.stood.store x.stood.locals tt t

block_rule : {m : Module} {p : Spot} (x : Next m p) (values : List ℕ) (below : List ValType) (bt : Option ValType) (code : List Instr) → Holds below values → x.after ≡ results bt ++ below
    → Types (within x) (results bt ∷ labels x) code [] (results bt) → Sound m (enter p values code (length (results bt)) p.level.code)
block_rule {p = p} x values below bt code h e t =
    enter_rule x values below (results bt) (results bt) code p.level.code h e t (subst (λ ts. Types (within x) (labels x) p.level.code ts x.here.shape.leaves) e x.onward)

pub block_sound : {m : Module} {p : Spot} (x : Next m p) (pages : ℕ) (i : Instr) (bt : Option ValType) (body : Seq) → Types (within x) (results bt ∷ labels x) body.items [] (results bt) → x.after ≡ results bt ++ x.before
    → Sound m (act m pages i (Instr-F.Block bt body) p)
block_sound {p = p} x pages i bt body t e = block_rule x p.level.values x.before bt body.items x.values e t

pub loop_sound : {m : Module} {p : Spot} (x : Next m p) (pages : ℕ) (i : Instr) (bt : Option ValType) (body : Seq) → Types (within x) (labels x) (i ∷ p.level.code) x.before x.here.shape.leaves
    → Types (within x) ([] ∷ labels x) body.items [] (results bt) → x.after ≡ results bt ++ x.before → Sound m (act m pages i (Instr-F.Loop bt body) p)
loop_sound {p = p} x pages i bt body whole t e = enter_rule x p.level.values x.before [] (results bt) body.items (i ∷ p.level.code) x.values e t whole

pub if_sound : {m : Module} {p : Spot} (x : Next m p) (pages : ℕ) (i : Instr) (bt : Option ValType) (first second : Seq) (below : List ValType) → Types (within x) (results bt ∷ labels x) first.items [] (results bt)
    → Types (within x) (results bt ∷ labels x) second.items [] (results bt) → x.before ≡ I32 ∷ below → x.after ≡ results bt ++ below → Sound m (act m pages i (Instr-F.If bt first second) p)
if_sound {m = m} {p = p} x pages i bt first second below t u e e' =
    top_rule (Sound m) Stuck I32 below p.level.values (λ v vs. enter p vs (if nat_eq v 0 then second.items else first.items) (length (results bt)) p.level.code) (subst (λ ts. Holds ts p.level.values) e x.values)
    (λ v vs fv hv. block_rule x vs below bt (if nat_eq v 0 then second.items else first.items) hv e'
    (if_rule (λ code. Types (within x) (results bt ∷ labels x) code [] (results bt)) (nat_eq v 0) second.items first.items (λ b. u) (λ b. t)))

pub br_sound : {m : Module} {p : Spot} (x : Next m p) (pages : ℕ) (i : Instr) (n : ℕ) → Takes x (Instr-F.Br n) → Sound m (act m pages i (Instr-F.Br n) p)
br_sound {p = p} x pages i n q = branch_at_rule x n p.level.values q.0 q.2.0 q.1 (subst (λ ts. Holds ts p.level.values) q.2.1 x.values)

pub br_if_sound : {m : Module} {p : Spot} (x : Next m p) (pages : ℕ) (i : Instr) (n : ℕ) → Takes x (Instr-F.BrIf n) → Sound m (act m pages i (Instr-F.BrIf n) p)
br_if_sound {m = m} {p = p} x pages i n q =
    top_rule (Sound m) Stuck I32 (q.0 ++ q.2.0) p.level.values (λ v vs. if nat_eq v 0 then onto p vs else branch_at p n vs) (subst (λ ts. Holds ts p.level.values) q.2.1 x.values)
    (λ v vs fv hv. if_rule (Sound m) (nat_eq v 0) (onto p vs) (branch_at p n vs) (λ b. onto_rule x vs (subst (λ ts. Holds ts vs) (sym q.2.2) hv)) (λ b. branch_at_rule x n vs q.0 q.2.0 q.1 hv))

leads : (labels : List (List ValType)) (ts : List ValType) (ns : List ℕ) (v d : ℕ) → Lead labels ts ns → slice_get labels d ≡ Some ts → slice_get labels (get_or ns v d) ≡ Some ts
leads labels ts [] v d h e = e
leads labels ts (n ∷ ns) zero d h e = h.0
leads labels ts (n ∷ ns) (suc v) d h e = leads labels ts ns v d h.1 e

pub br_table_sound : {m : Module} {p : Spot} (x : Next m p) (pages : ℕ) (i : Instr) (is : List ℕ) (n : ℕ) → Takes x (Instr-F.BrTable is n) → Sound m (act m pages i (Instr-F.BrTable is n) p)
br_table_sound {m = m} {p = p} x pages i is n q =
    top_rule (Sound m) Stuck I32 (q.0 ++ q.3.0) p.level.values (λ v vs. branch_at p (get_or is v n) vs) (subst (λ ts. Holds ts p.level.values) q.3.1 x.values)
    (λ v vs fv hv. branch_at_rule x (get_or is v n) vs q.0 q.3.0 (leads (labels x) q.0 is v n q.1 q.2) hv)

pub return_sound : {m : Module} {p : Spot} (x : Next m p) (pages : ℕ) (i : Instr) → Takes x Instr-F.Return → Sound m (act m pages i Instr-F.Return p)
return_sound {p = p} x pages i q = finish_rule p x.here.inside p.level.values q.0 x.stood.store (subst (λ ts. Holds ts p.level.values) q.1 x.values)

-- calls
opened_rule : {m : Module} {p : Spot} (x : Next m p) (n : ℕ) (fn : Function) (below : List ValType) (args others : List ℕ) → Valid m → own m n ≡ Some fn → x.after ≡ fn.signature.results ++ below
    → Holds (reverse fn.signature.params) args → Holds below others → Sound m (opened fn p args others)
opened_rule {m = m} {p = p} x n fn below args others valid member e ha ho = record {
  store = x.stood.store;
  running = (
    record {
      index = n;
      function = fn;
      member = member;
      locals = holds_append fn.signature.params fn.declared (reverse args) (zeros fn.declared)
          (subst (λ ts. Holds ts (reverse args)) (reverse-reverse fn.signature.params) (holds_reverse (reverse fn.signature.params) args ha)) (holds_zeros fn.declared);
      gives = refl;
      first = record { stands = []; leaves = fn.signature.results; takes = fn.signature.results };
      others = [];
      levels = (record { values = tt; code = own_typed m n fn valid member; target = refl }, refl);
    },
    (
      record {
        index = x.here.inside.index;
        function = x.here.inside.function;
        member = x.here.inside.member;
        locals = x.stood.locals;
        gives = x.here.inside.gives;
        first = record { stands = below; leaves = x.here.shape.leaves; takes = x.here.shape.takes };
        others = x.here.others;
        levels = (record { values = ho; code = subst (λ ts. Types (within x) (labels x) p.level.code ts x.here.shape.leaves) e x.onward; target = x.here.target }, x.here.levels);
      },
      x.here.inside.frames,
    ),
  );
}

asked_rule : {m : Module} {p : Spot} (x : Next m p) (h : HostName) (below : List ValType) (args others : List ℕ) → x.after ≡ host_results h ++ below → Holds (reverse (host_params h)) args → Holds below others
    → Sound m (asked h p args others)
asked_rule {m = m} {p = p} x h below args others e ha ho = record {
  arguments = subst (λ ts. Holds ts (reverse args)) (reverse-reverse (host_params h)) (holds_reverse (reverse (host_params h)) args ha);
  memory = x.stood.store.memory;
  waits = λ memory answer hm ht.
      goes_rule x.here (record { memory = memory; globals = p.store.globals; table = p.store.table }) p.locals (option_to_list answer ++ others) p.level.code x.after
      (record { memory = hm; globals = x.stood.store.globals; length = x.stood.store.length; table = x.stood.store.table }) x.stood.locals
      (subst (λ ts. Holds ts (option_to_list answer ++ others)) (sym e) (holds_append (host_results h) below (option_to_list answer) others ht ho)) x.onward;
}

call_of_rule : {m : Module} {p : Spot} (x : Next m p) (n : ℕ) (ft : FuncType) (below : List ValType) (values : List ℕ) (o : Option Import) → Valid m → slice_get m.imports n ≡ o
    → type_of m n ≡ Some ft → x.after ≡ ft.results ++ below → Holds (reverse ft.params ++ below) values → Sound m (call_of m n p values o)
call_of_rule {m = m} {p = p} x n ft below values (Some i) valid member e e' h =
    let l : Lent i ft = lent i ft (imported_type m i.kind) (sym (type_of_import m n i member) ∙ e) (host_at m n i valid member) in
    some_rule (Sound m) Stuck (host_named i.name) l.call (λ c. split Stuck (length (host_params c)) values (asked c p)) l.named
    (split_rule (Sound m) Stuck (length (host_params l.call)) (reverse (host_params l.call)) below values (asked l.call p) (subst (λ ts. Holds (reverse ts ++ below) values) l.params h)
    (sym (length-reverse (host_params l.call)))
    (λ args others ha ho. asked_rule x l.call below args others (subst (λ ts. x.after ≡ ts ++ below) l.results e') ha ho))
call_of_rule {m = m} {p = p} x n ft below values None valid member e e' h =
    let r : Owned m n ft = owned m n ft valid member e in
    some_rule (Sound m) Stuck (own m n) r.function (λ fn. split Stuck (length fn.signature.params) values (opened fn p)) r.member
    (split_rule (Sound m) Stuck (length r.function.signature.params) (reverse r.function.signature.params) below values (opened r.function p)
    (subst (λ (k : FuncType). Holds (reverse k.params ++ below) values) (sym r.signature) h)
    (sym (length-reverse r.function.signature.params))
    (λ args others ha ho. opened_rule x n r.function below args others valid r.member (subst (λ (k : FuncType). x.after ≡ k.results ++ below) (sym r.signature) e') ha ho))

call_rule : {m : Module} {p : Spot} (x : Next m p) (n : ℕ) (ft : FuncType) (below : List ValType) (values : List ℕ) → Valid m → type_of m n ≡ Some ft → x.after ≡ ft.results ++ below
    → Holds (reverse ft.params ++ below) values → Sound m (call m n p values)
call_rule {m = m} x n ft below values valid e e' h = call_of_rule x n ft below values (slice_get m.imports n) valid refl e e' h

pub call_sound : {m : Module} {p : Spot} (x : Next m p) (pages : ℕ) (i : Instr) (n : ℕ) → Valid m → Takes x (Instr-F.Call n) → Sound m (act m pages i (Instr-F.Call n) p)
call_sound {p = p} x pages i n valid q = call_rule x n q.0 q.2.0 p.level.values valid q.1 q.2.2 (subst (λ ts. Holds ts p.level.values) q.2.1 x.values)

indirect_rule : {m : Module} {p : Spot} (x : Next m p) (ft : FuncType) (below : List ValType) (values : List ℕ) (k : ℕ) (o : Option (Option ℕ)) → Valid m → slice_get p.store.table k ≡ o
    → x.after ≡ ft.results ++ below → Holds (reverse ft.params ++ below) values → Sound m (indirect m ft p values o)
indirect_rule x ft below values k None valid e e' h = tt
indirect_rule x ft below values k (Some None) valid e e' h = tt
indirect_rule {m = m} {p = p} x ft below values k (Some (Some n)) valid e e' h =
    let g = x.stood.store.table k n e in
    some_rule (Sound m) Stuck (type_of m n) g.0 (λ found. if same_type found ft then call m n p values else Trapped trap.TypeDiffers) g.1
    (if_rule (Sound m) (same_type g.0 ft) (call m n p values) (Trapped trap.TypeDiffers)
    (λ b.
    let s = type_is g.0 ft b in
    call_rule x n g.0 below values valid g.1 (subst (λ ts. x.after ≡ ts ++ below) (sym s.1) e') (subst (λ ts. Holds (reverse ts ++ below) values) (sym s.0) h))
    (λ b. tt))

pub call_indirect_sound : {m : Module} {p : Spot} (x : Next m p) (pages : ℕ) (i : Instr) (n : ℕ) → Valid m → Takes x (Instr-F.CallIndirect n) → Sound m (act m pages i (Instr-F.CallIndirect n) p)
call_indirect_sound {m = m} {p = p} x pages i n valid q =
    let ft = q.0 in
    let below = q.3.0 in
    some_rule (Sound m) Stuck (slice_get m.types n) ft (λ ft. with_top Stuck p.level.values (λ v vs. indirect m ft p vs (slice_get p.store.table v))) q.1
    (top_rule (Sound m) Stuck I32 (reverse ft.params ++ below) p.level.values (λ v vs. indirect m ft p vs (slice_get p.store.table v)) (subst (λ ts. Holds ts p.level.values) q.3.1 x.values)
    (λ v vs fv hv. indirect_rule x ft below vs v (slice_get p.store.table v) valid refl q.3.2 hv))
