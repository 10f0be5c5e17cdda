-- From rest to rest.
use Rattle.std.proofs.Common.{◌≡◌, ℕ, ◌+◌, ◌-◌, ◌<◌, ◌≤◌, List, [], ◌∷◌, length, take, refl, sym, ap, subst, ◌∙◌, arith, Bor}
use Rattle.std.proofs.Math.Seq.{take-length}
use Rattle.wasm_ast.specs.declared.hosts.HostName.{HostName}
use Rattle.wasm_ast.specs.declared.hosts.HostName.TheVariants.{Input, Read, Write, Delete, Send, Raise, Reply, OwnLabel, Release}
use Rattle.wasm_ast.specs.declared.trees.Instr.{Instr}
use Rattle.wasm_ast.specs.declared.modules.Module.{Module}
use Rattle.wasm_ast.specs.Hosts.{host_params, host_results}
use Rattle.wasm_semantics.specs.declared.traps.Trap.{Trap}
use Rattle.wasm_semantics.specs.Operators.{truth}
use Rattle.wasm_semantics.specs.Threads.{Store, Frame, Thread, Goes, Calls, Trapped, Done}
use Rattle.wasm_semantics.specs.Control.{thread_at}
use Rattle.wasm_semantics.specs.Units.{units, units_from, Course}
use Rattle.wasm_semantics.specs.OfModule.{IsOf, IsWaiting, IsCall, Sound}
use Rattle.wasm_semantics.specs.Laws.{in_four_places}
use Rattle.wasm_data.specs.Cuts.{above, under}
use Rattle.wasm_data.specs.Marked.{locals_in, operands_in}
use Rattle.wasm_data.proofs.Opened.{locals_before, operands_before, take_before}
use Rattle.wasm_blocks.specs.declared.open.Open.{Open}
use Rattle.wasm_blocks.specs.Levels.{spot_in}
use Rattle.wasm_blocks.specs.Runs.{own_nexts}
use Rattle.wasm_blocks.proofs.Cuts.{under_all}
use Rattle.wasm_frames.specs.declared.active.Place.{Place}
use Rattle.wasm_frames.specs.declared.active.Active.{Active}
use Rattle.wasm_frames.specs.Resting.{body_of, frames_at_rest}
use Rattle.wasm_frames.specs.Standing.{Surroundings, held, thread_in, IsStanding, IsPlaced}
use Rattle.wasm_frames.specs.Turns.{IsBounded, IsCold}
use Rattle.wasm_frames.proofs.Resting.{same_frames}
use Rattle.wasm_exec.specs.declared.rounds.Halt.{Halt}
use Rattle.wasm_exec.specs.declared.rounds.Halt.TheVariants as halt
use Rattle.wasm_exec.specs.declared.stops.Asked.{Asked}
use Rattle.wasm_exec.specs.declared.stops.Stop.{Stop}
use Rattle.wasm_exec.specs.declared.stops.Stop.TheVariants as stop
use Rattle.wasm_exec.specs.Codes.{HasLaid}
use Rattle.wasm_exec.specs.Going.{active_at, place_of, code_at, IsGoing, HasWarmed}
use Rattle.wasm_exec.specs.Resting.{thread_at_rest, AreAtRest, CanGoOn, AwaitsAnswer, Rests, HasGrown}
use Rattle.wasm_exec.specs.Rounds.{ended, IsLeft, HasStopped, Comes}
use Rattle.wasm_exec.proofs.WokenFrames.{wakes, rests}

units_are : (m : Module) (pages count : ℕ) (t : Thread) → units m pages t count ≡ units_from m pages 0 count t
unfolding units
units_are m pages count t = refl

-- a run begins
pub record HasBegun (m : Module) (pages count : ℕ) (st : Store) (t : Thread) (a : Active) (h : Surroundings) : Type 0 where
  pub is : units m pages t count ≡ units_from m pages 0 (count - 0) (thread_in m st a h)
  pub going : IsGoing m st a h

begins_at : (m : Module) (pages count : ℕ) (st : Store) (p : Place) (ps : List Place) (code : Bor (List Instr)) (values : List ℕ) (os : List Open) (ns : List (Bor (List Instr))) → CanGoOn m st p ps values os
    → code.now ≡ code_at m p os → HasLaid (body_of m p.function) (above p.low os) [] ns
    → HasBegun m pages count st (thread_at_rest m st (p ∷ ps) values os) (active_at p code) (held ps [] values os ns)
begins_at m pages count st p ps code values os ns can e l =
    let w = wakes m st p ps code values os ns can.rests.resting e l in
    let all : count ≡ count - 0 = omega arith in
    record {
      is = units_are m pages count (thread_at_rest m st (p ∷ ps) values os)
          ∙ (ap (λ k. units_from m pages 0 k (thread_at_rest m st (p ∷ ps) values os)) all ∙ ap (units_from m pages 0 (count - 0)) (sym w.0));
      going = record {
        of = subst (IsOf m) (sym w.0) can.of;
        stands = w.1;
        placed = w.2;
        bounded = record { values = can.rests.size; frames = can.rests.frames; blocks = can.rests.blocks };
      };
    }

pub begins : (m : Module) (pages count : ℕ) (st : Store) (p : Place) (ps : List Place) (code : Bor (List Instr)) (a : Active) (values : List ℕ) (os : List Open) (high : ℕ) (cs ns0 ns : List (Bor (List Instr))) → CanGoOn m st p ps values os
    → cs ≡ [] → ns0 ≡ [] → high ≡ length os → code.now ≡ code_at m p (under high os) → HasLaid (body_of m p.function) (above p.low (under high os)) ns0 ns → a ≡ active_at p code
    → HasBegun m pages count st (thread_at_rest m st (p ∷ ps) values os) a (held ps cs values os ns)
begins m pages count st p ps code a values os high cs ns0 ns can none empty whole e l is =
    let E = under_all os high (sym whole) in
    let e' = subst (λ xs. code.now ≡ code_at m p xs) E e in
    let l' = subst (λ xs. HasLaid (body_of m p.function) (above p.low xs) ns0 ns) E l in
    let l'' = subst (λ xs. HasLaid (body_of m p.function) (above p.low os) xs ns) empty l' in
    let B : Active → List (Bor (List Instr)) → Type 0 = λ b ys. HasBegun m pages count st (thread_at_rest m st (p ∷ ps) values os) b (held ps ys values os ns) in
    subst (λ b. B b cs) (sym is) (subst (B (active_at p code)) (sym none) (begins_at m pages count st p ps code values os ns can e' l''))

-- more room
pub grows : (m : Module) (st : Store) (a : Active) (ps : List Place) (cs : List (Bor (List Instr))) (values values' : List ℕ) (os : List Open) (ns : List (Bor (List Instr))) → IsGoing m st a (held ps cs values os ns) → HasGrown values values'
    → (thread_in m st a (held ps cs values os ns) ≡ thread_in m st a (held ps cs values' os ns)) × IsGoing m st a (held ps cs values' os ns)
grows m st a ps cs values values' os ns g grown =
    let k = a.hot.marks in
    let w = g.stands.here.within in
    let n = length values in
    let own = above a.hot.low os in
    let nexts = own_nexts a.hot.low os ns in
    let whole : take n values ≡ values = take-length values in
    let same : take n values' ≡ take n values = grown.front ∙ sym whole in
    let long : n ≤ length values' = omega (arith, grown.more) in
    let below = same_frames m ps k.base values values' (under a.hot.low os) g.stands.begins g.stands.below (take_before k.base n values' values (omega (arith, w.locals, w.operands, w.room)) same) long in
    let at = λ (ls ops : List ℕ) (fs : List Frame). thread_at (spot_in (record { store = st; locals = ls; gives = truth a.gives; frames = fs }) a.hot.code.now nexts own ops) in
    let ls = locals_before k.base k.floor n values' values w.locals (omega (arith, w.operands, w.room)) same in
    let ops = operands_before k.floor k.sp n values' values w.room same in
    let t : thread_in m st a (held ps cs values os ns) ≡ thread_in m st a (held ps cs values' os ns) =
    ap (λ xs. at xs (operands_in k.floor k.sp values) (frames_at_rest m ps values (under a.hot.low os))) (sym ls)
    ∙ (ap (λ xs. at (locals_in k.base k.floor values') xs (frames_at_rest m ps values (under a.hot.low os))) (sym ops)
    ∙ ap (at (locals_in k.base k.floor values') (operands_in k.floor k.sp values')) (sym below.0)) in (
      t,
      record {
        of = subst (IsOf m) t g.of;
        stands = record {
          here = record {
            within = record { locals = w.locals; operands = w.operands; room = omega (arith, w.room, long) };
            low = g.stands.here.low;
            many = g.stands.here.many;
            tower = g.stands.here.tower;
          };
          begins = g.stands.begins;
          below = below.1;
          warm = g.stands.warm;
        };
        placed = record { here = g.placed.here; below = g.placed.below };
        bounded = record { values = grown.most; frames = g.bounded.frames; blocks = g.bounded.blocks };
      },
    )

-- room was made, or code was found, and the same units are left
pub left_on : (m : Module) (pages count first used : ℕ) (course : Course) (codes : List (Bor (List Instr))) (st : Store) (h : Surroundings) (a : Active) (was : Halt) → Comes m pages count course first codes st h a used was → was ≡ halt.Full
    → IsLeft m pages count course first codes st h a used × (used < count) × (length h.values < 65536)
left_on m pages count first used course codes st h a was g e = subst (Comes m pages count course first codes st h a used) e g

pub cold_on : (m : Module) (pages count first used : ℕ) (course : Course) (codes : List (Bor (List Instr))) (st : Store) (h : Surroundings) (a : Active) (was : Halt) → Comes m pages count course first codes st h a used was → was ≡ halt.Cold
    → IsLeft m pages count course first codes st h a used × (used < count) × IsCold h
cold_on m pages count first used course codes st h a was g e = subst (Comes m pages count course first codes st h a used) e g

pub warmed : (m : Module) (st : Store) (a : Active) (ps ps' : List Place) (cs cs' : List (Bor (List Instr))) (values : List ℕ) (os : List Open) (ns ns' : List (Bor (List Instr))) → IsGoing m st a (held ps cs values os ns)
    → HasWarmed m a (held ps cs values os ns) (held ps' cs' values os ns')
    → (thread_in m st a (held ps cs values os ns) ≡ thread_in m st a (held ps' cs' values os ns')) × IsGoing m st a (held ps' cs' values os ns')
warmed m st a ps ps' cs cs' values os ns ns' g w = (
  sym (w.thread st),
  record {
    of = subst (IsOf m) (sym (w.thread st)) g.of;
    stands = w.stands;
    placed = w.placed;
    bounded = record { values = g.bounded.values; frames = omega (arith, w.frames, g.bounded.frames); blocks = g.bounded.blocks };
  },
)

-- the frame waits
abbrev Waits : Module → Course → Store → Active → Surroundings → Place → ℕ → Stop → Type 0
Waits m course st a h p used why = p ≡ place_of a → Rests m course st p h.places h.values h.opens used why

at_rest : (m : Module) (a : Active) (h : Surroundings) → IsStanding a h → IsPlaced m a h → IsBounded h → AreAtRest (place_of a) h.places h.values h.opens
at_rest m a h s pl b = record { resting = (record { within = s.here.within; low = s.here.low; tower = s.here.tower; begins = s.begins }, s.below); size = b.values; frames = b.frames; blocks = b.blocks }

by_place : (m : Module) (course : Course) (st : Store) (a : Active) (h : Surroundings) (p : Place) (used : ℕ) (why : Stop) → Rests m course st (place_of a) h.places h.values h.opens used why → Waits m course st a h p used why
by_place m course st a h p used why r e = subst (λ q. Rests m course st q h.places h.values h.opens used why) (sym e) r

pub spends : (m : Module) (course : Course) (used : ℕ) (st : Store) (a : Active) (h : Surroundings) (p : Place) → (course ≡ ended used (Goes (thread_in m st a h))) → IsGoing m st a h → Waits m course st a h p used stop.Spent
spends m course used st a h p e g =
    let r = (rests m st a h g.stands g.placed).0 in
    by_place m course st a h p used stop.Spent (
      e ∙ ap (λ t. ended used (Goes t)) (sym r),
      record { of = subst (IsOf m) (sym r) g.of; rests = at_rest m a h g.stands g.placed g.bounded },
    )

few_results : (h : HostName) → length (host_results h) ≤ length (host_params h)
few_results Input = omega arith
few_results Read = omega arith
few_results Write = omega arith
few_results Delete = omega arith
few_results Send = omega arith
few_results Raise = omega arith
few_results Reply = omega arith
few_results OwnLabel = omega arith
few_results Release = omega arith

abbrev args_of : Surroundings → Active → HostName → List ℕ
args_of h a name = let sp = a.hot.marks.sp in locals_in sp (sp + length (host_params name)) h.values

-- its arguments have their types
pub call_of : (m : Module) (course : Course) (used : ℕ) (st : Store) (h : Surroundings) (name : HostName) (a : Active) → HasStopped m course used st h name a → IsCall m name (args_of h a name) (thread_in m st a h)
call_of m course used st h name a s = subst (Sound m) s.asked.is s.sound

pub calls : (m : Module) (course : Course) (used : ℕ) (st : Store) (a : Active) (h : Surroundings) (p : Place) (name : HostName) (asked : Asked) → HasStopped m course used st h name a → asked.name ≡ name → asked.args ≡ in_four_places (args_of h a name)
    → Waits m course st a h p used (stop.Call asked)
calls m course used st a h p name asked s named four =
    let r = (rests m st a h s.asked.stands s.asked.placed).0 in
    let call = call_of m course used st h name a s in
    let args = args_of h a name in
    let t = thread_at_rest m st (place_of a ∷ h.places) h.values h.opens in
    let waits : AwaitsAnswer m st name (place_of a) h.places h.values h.opens = record {
      waits = subst (IsWaiting m name) (sym r) call.waits;
      memory = call.memory;
      rests = at_rest m a h s.asked.stands s.asked.placed s.bounded;
      room = omega (arith, s.asked.room, few_results name);
    } in
    by_place m course st a h p used (stop.Call asked) (record {
      args = args;
      is = s.is ∙ (ap (ended used) s.asked.is ∙ (ap (λ u. ended used (Calls name args u)) (sym r) ∙ ap (λ n. ended used (Calls n args t)) (sym named)));
      places = four;
      waits = subst (λ n. AwaitsAnswer m st n (place_of a) h.places h.values h.opens) (sym named) waits;
    })

-- a round's answer is the run's, whose course it is
by_course : (m : Module) (course course' : Course) (st : Store) (p : Place) (ps : List Place) (values : List ℕ) (os : List Open) (used : ℕ) (why : Stop) → course ≡ course' → Rests m course' st p ps values os used why → Rests m course st p ps values os used why
by_course m course course' st p ps values os used why e r = subst (λ x. Rests m x st p ps values os used why) (sym e) r

pub ends_spent : (m : Module) (pages count first used : ℕ) (course course' : Course) (codes : List (Bor (List Instr))) (st : Store) (h : Surroundings) (a : Active) (was : Halt) (p : Place) → course ≡ course' → Comes m pages count course' first codes st h a used was → was ≡ halt.Spent
    → p ≡ place_of a → Rests m course st p h.places h.values h.opens used stop.Spent
ends_spent m pages count first used course course' codes st h a was p e g w at =
    let s = subst (Comes m pages count course' first codes st h a used) w g in
    by_course m course course' st p h.places h.values h.opens used stop.Spent e (spends m course' used st a h p s.0 s.1 at)

pub ends_done : (m : Module) (pages count first used : ℕ) (course course' : Course) (codes : List (Bor (List Instr))) (st : Store) (h : Surroundings) (a : Active) (was : Halt) → course ≡ course' → Comes m pages count course' first codes st h a used was → was ≡ halt.Done
    → course ≡ ended used Done
ends_done m pages count first used course course' codes st h a was e g w = e ∙ subst (Comes m pages count course' first codes st h a used) w g

pub ends_trapped : (m : Module) (pages count first used : ℕ) (course course' : Course) (codes : List (Bor (List Instr))) (st : Store) (h : Surroundings) (a : Active) (was : Halt) (t : Trap) → course ≡ course' → Comes m pages count course' first codes st h a used was
    → was ≡ halt.Trapped t → course ≡ ended used (Trapped t)
ends_trapped m pages count first used course course' codes st h a was t e g w = e ∙ subst (Comes m pages count course' first codes st h a used) w g

pub stopped : (m : Module) (pages count first used : ℕ) (course' : Course) (codes : List (Bor (List Instr))) (st : Store) (h : Surroundings) (a : Active) (was : Halt) (name : HostName) → Comes m pages count course' first codes st h a used was
    → was ≡ halt.Asks name → HasStopped m course' used st h name a
stopped m pages count first used course' codes st h a was name g w = subst (Comes m pages count course' first codes st h a used) w g

pub ends_asked : (m : Module) (used : ℕ) (course course' : Course) (st : Store) (h : Surroundings) (a : Active) (p : Place) (name : HostName) (asked : Asked) → course ≡ course' → HasStopped m course' used st h name a
    → asked.name ≡ name → asked.args ≡ in_four_places (args_of h a name) → p ≡ place_of a → Rests m course st p h.places h.values h.opens used (stop.Call asked)
ends_asked m used course course' st h a p name asked e s named four at =
    by_course m course course' st p h.places h.values h.opens used (stop.Call asked) e (calls m course' used st a h p name asked s named four at)

-- the same where the parts are what they were
pub by_parts : (m : Module) (course : Course) (st : Store) (p : Place) (ps ps' : List Place) (values values' : List ℕ) (os : List Open) (used : ℕ) (why why' : Stop) → ps' ≡ ps → values' ≡ values → why' ≡ why
    → Rests m course st p ps values os used why → Rests m course st p ps' values' os used why'
by_parts m course st p ps ps' values values' os used why why' e e' e'' r =
    subst (λ xs. Rests m course st p xs values' os used why') (sym e)
    (subst (λ xs. Rests m course st p ps xs os used why') (sym e')
    (subst (λ x. Rests m course st p ps values os used x) (sym e'') r))

pub out_of_memory : (m : Module) (course : Course) (st : Store) (p : Place) (ps : List Place) (values : List ℕ) (os : List Open) (used : ℕ) (why : Stop) → why ≡ stop.NoMemory → Rests m course st p ps values os used why
out_of_memory m course st p ps values os used why e = subst (λ x. Rests m course st p ps values os used x) (sym e) tt

pub warmed_in : (m : Module) (a : Active) (ps ps' : List Place) (cs cs' : List (Bor (List Instr))) (slice values : List ℕ) (os : List Open) (ns ns' : List (Bor (List Instr))) → slice ≡ values
    → HasWarmed m a (held ps cs slice os ns) (held ps' cs' slice os ns') → HasWarmed m a (held ps cs values os ns) (held ps' cs' values os ns')
warmed_in m a ps ps' cs cs' slice values os ns ns' e w = subst (λ xs. HasWarmed m a (held ps cs xs os ns) (held ps' cs' xs os ns')) e w
