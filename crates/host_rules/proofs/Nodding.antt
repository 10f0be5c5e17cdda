-- The turn of a module that replies with nothing.
use Rattle.std.proofs.Common.{◌≡◌, ℕ, suc, List, [], ◌∷◌, ◌++◌, Some, None, refl, ◌∙◌, ap}
use Rattle.std.specs.Prelude.{codes}
use Rattle.trapeze_lines.specs.declared.line.Line.{Line}
use Rattle.trapeze_lines.specs.declared.outcome.Outcome.TheVariants as outcome
use Rattle.wasm_ast.specs.declared.hosts.HostName.TheVariants.{Reply}
use Rattle.wasm_ast.specs.declared.trees.Instr.{Instr}
use Rattle.wasm_ast.specs.declared.trees.Instr.TheOpen.{Instr-F}
use Rattle.wasm_ast.specs.declared.trees.Instr.TheVariants as instr
use Rattle.wasm_ast.specs.Bytes.{first_memory}
use Rattle.wasm_ast.specs.Hosts.{host_named}
use Rattle.wasm_ast.specs.Spaces.{own, type_of, import_of}
use Rattle.wasm_ast.specs.Trees.{layer_i32_const, layer_call}
use Rattle.wasm_ast.specs.Validity.{handle_of}
use Rattle.wasm_semantics.specs.Threads.{Store, Thread, Outcome, Goes, Calls, Done}
use Rattle.wasm_semantics.specs.Begin.{begin}
use Rattle.wasm_semantics.specs.Units.{unit}
use Rattle.wasm_semantics.specs.Examples.{level, frame, lone}
use Rattle.wasm_semantics.proofs.Written.{taken}
use Rattle.host_rules.specs.Guests.{Guest}
use Rattle.host_rules.specs.Modules.{unit_of, guest_of}
use Rattle.host_rules.specs.States.{Activation, State, Serving, start, count_turn, told, then_lines, then_move}
use Rattle.host_rules.specs.States as states
use Rattle.host_rules.specs.Turns.{Ended, Stint, then_stint, after_unit, stint, closing}
use Rattle.host_rules.specs.Play.{ask}
use Rattle.host_rules.specs.Examples.{village, roomy, low, ask_at, turn_at, started, answered, replied, turned}
use Rattle.host_rules.specs.Nods.{nod_code, nod, told_of_nods}

abbrev nods : Guest Thread
nods = guest_of (nod ∷ [])

abbrev bare : Store
bare = record { memory = first_memory nod; globals = []; table = [] }

abbrev at_code : List ℕ → List Instr → Thread
at_code values code = lone bare (level values code ∷ [])

nod_begins : begin nod ≡ at_code [] nod_code
unfolding begin own handle_of type_of import_of
nod_begins = refl

first_unit : unit nod 2 (at_code [] nod_code) ≡ Goes (at_code (0 ∷ []) (instr.I32Const 0 ∷ instr.Call 0 ∷ []))
first_unit = taken nod 2 bare (frame (level [] nod_code ∷ [])) [] (level [] nod_code) [] (instr.I32Const 0) (instr.I32Const 0 ∷ instr.Call 0 ∷ []) (Instr-F.I32Const 0) refl refl (layer_i32_const 0)

second_unit : unit nod 2 (at_code (0 ∷ []) (instr.I32Const 0 ∷ instr.Call 0 ∷ [])) ≡ Goes (at_code (0 ∷ 0 ∷ []) (instr.Call 0 ∷ []))
second_unit = taken nod 2 bare (frame (level (0 ∷ []) (instr.I32Const 0 ∷ instr.Call 0 ∷ []) ∷ [])) [] (level (0 ∷ []) (instr.I32Const 0 ∷ instr.Call 0 ∷ [])) [] (instr.I32Const 0) (instr.Call 0 ∷ []) (Instr-F.I32Const 0) refl refl (layer_i32_const 0)

third_unit : unit nod 2 (at_code (0 ∷ 0 ∷ []) (instr.Call 0 ∷ [])) ≡ Calls Reply (0 ∷ 0 ∷ []) (at_code [] [])
unfolding host_named
third_unit = taken nod 2 bare (frame (level (0 ∷ 0 ∷ []) (instr.Call 0 ∷ []) ∷ [])) [] (level (0 ∷ 0 ∷ []) (instr.Call 0 ∷ [])) [] (instr.Call 0) [] (Instr-F.Call 0) refl refl (layer_call 0)

last_unit : unit nod 2 (at_code [] []) ≡ Done
unfolding unit
last_unit = refl

-- the request that is served, the activation, and the state in which its turn begins
abbrev served : Serving
served = record { request = record { label = 0; number = 1 }; client = 0; id = codes "r" }

abbrev running : Activation Thread
running = record { function = 0; input = codes "in"; serves = Some served; thread = None; used = 0 }

-- one unit of a stint
one_unit : (n : ℕ) (t : Thread) (s : State Thread) (o : Outcome) → unit nod 2 t ≡ o
    → stint (village roomy) nods low running (suc n) t s ≡ after_unit (village roomy) nods low running s (λ t s. stint (village roomy) nods low running n t s) (unit_of o)
one_unit n t s o e = ap (λ o. after_unit (village roomy) nods low running s (λ t s. stint (village roomy) nods low running n t s) (unit_of o)) e

-- the rest of the stint after the reply
answered_stint : (s : State Thread) → stint (village roomy) nods low running 7 (at_code [] []) s ≡ record { moved = record { state = s; lines = []; outs = [] }; end = Ended }
answered_stint s = one_unit 6 (at_code [] []) s Done last_unit

-- the whole stint
after_reply : State Thread → Stint Thread
after_reply s = after_unit (village roomy) nods low running s (λ t s. stint (village roomy) nods low running 7 t s) (unit_of (Calls Reply (0 ∷ 0 ∷ []) (at_code [] [])))

whole_stint : (s : State Thread) → stint (village roomy) nods low running 10 (begin nod) s ≡ after_reply s
unfolding after_reply
whole_stint s = ap (λ t. stint (village roomy) nods low running 10 t s) nod_begins
    ∙ one_unit 9 (at_code [] nod_code) s (Goes (at_code (0 ∷ []) (instr.I32Const 0 ∷ instr.Call 0 ∷ []))) first_unit
    ∙ one_unit 8 (at_code (0 ∷ []) (instr.I32Const 0 ∷ instr.Call 0 ∷ [])) s (Goes (at_code (0 ∷ 0 ∷ []) (instr.Call 0 ∷ []))) second_unit
    ∙ one_unit 7 (at_code (0 ∷ 0 ∷ []) (instr.Call 0 ∷ [])) s (Calls Reply (0 ∷ 0 ∷ []) (at_code [] [])) third_unit

-- the state in which the turn begins
abbrev asked_state : State Thread
asked_state = count_turn (ask (village roomy) low 0 0 (codes "r") (codes "in") (start [])).state low

-- what is told of the stint, and of its end
abbrev told_by : Stint Thread → List Line
told_by r = started low low ∷ ((then_move r.moved (closing (village roomy) low 1 running 10 r.end r.moved.state)).lines ++ [])

pub nodded : told_of_nods (ask_at low ∷ turn_at low ∷ []) ≡ started low low ∷ answered low [] ∷ replied [] ∷ turned low 1 outcome.Ended ∷ []
unfolding after_reply first_memory
nodded = ap told_by (whole_stint asked_state) ∙ ap (λ (r : Stint Thread). told_by (then_stint (then_lines (answered low [] ∷ []) (told (replied []) (states.answer asked_state served.request))) r)) (answered_stint (states.answer asked_state served.request))
