-- Opcode after opcode, as the code goes.
use Rattle.std.proofs.Common.{◌≡◌, ◌≢◌, ℕ, [], ◌∷◌, ◌++◌, List, Result, Ok, Err, ap, ◌∙◌}
use Rattle.std.specs.Prelude.{nat_eq, if◌then◌else◌}
use Rattle.std.proofs.lemmas.Bool.{ne_eqb}
use Rattle.wasm_code.specs.declared.frames.Opened.TheVariants as opened
use Rattle.wasm_code.specs.Opcodes.{kind_of}
use Rattle.wasm_ast.specs.declared.trees.Instr.{Instr}
use Rattle.wasm_code.specs.declared.error.DecodeError.{DecodeError}
use Rattle.wasm_code.specs.declared.frames.Frame.{Frame}
use Rattle.wasm_code.specs.Places.{Place, ◌>>=◌, byte}
use Rattle.wasm_code.specs.Answers.{IsFirstFault}
use Rattle.wasm_code.specs.Reading.{Next, More, end, otherwise, enter, instruction, plain, act, step, steps, go, go_on, expr}
use Rattle.wasm_code.proofs.Agreements.{bind}
use Rattle.wasm_code.proofs.Loops.{stops_whole}
use Rattle.std.proofs.Common.{length}

fault_first : (fs : List Frame) (items : List Instr) (p : Place) (e : DecodeError) → step fs items p ≡ Err e → go fs items p ≡ Err e
unfolding steps
fault_first fs items p e h = ap (λ x. x >>= go_on (steps (length p.rest))) h

pub fails : (fs : List Frame) (items : List Instr) (p : Place) (e : DecodeError) → IsFirstFault e (step fs items p) → IsFirstFault e (go fs items p)
fails fs items p e h = stops_whole e (step fs items p) (go fs items p) (λ d k. fault_first fs items p d k) h

pub begins : (fs : List Frame) (items : List Instr) (p : Place) → fs ≡ [] → items ≡ [] → go fs items p ≡ expr p
begins fs items p e f = ap (λ fs. go fs items p) e ∙ ap (λ js. go [] js p) f

-- an opcode that opens, parts and ends no block
pub record IsOther (op : ℕ) : Type 0 where
  pub block : op ≢ 0x02
  pub loop : op ≢ 0x03
  pub if_ : op ≢ 0x04
  pub otherwise : op ≢ 0x05
  pub end : op ≢ 0x0b

skip : (op b : ℕ) (x y : Result Next DecodeError) → op ≢ b → (if nat_eq op b then x else y) ≡ y
skip op b x y h = ap (λ t. if t then x else y) (ne_eqb op b h)

act_other : (op : ℕ) (fs : List Frame) (items : List Instr) (p q : Place) → IsOther op → act op fs items p q ≡ plain (kind_of op) fs items p q
act_other op fs items p q h =
    let z : Result Next DecodeError = plain (kind_of op) fs items p q in
    let d : Result Next DecodeError = if nat_eq op 0x0b then Ok (end fs items q) else z in
    let c : Result Next DecodeError = if nat_eq op 0x05 then otherwise fs items p q else d in
    let b : Result Next DecodeError = if nat_eq op 0x04 then enter opened.If fs items p q else c in
    let a : Result Next DecodeError = if nat_eq op 0x03 then enter opened.Loop fs items p q else b in
    skip op 0x02 (enter opened.Block fs items p q) a h.block
    ∙ (skip op 0x03 (enter opened.Loop fs items p q) b h.loop
    ∙ (skip op 0x04 (enter opened.If fs items p q) c h.if_
    ∙ (skip op 0x05 (otherwise fs items p q) d h.otherwise
    ∙ skip op 0x0b (Ok (end fs items q)) z h.end)))

other : (op : ℕ) (fs : List Frame) (items : List Instr) (p q : Place) → byte p ≡ Ok (op, q) → IsOther op → step fs items p ≡ plain (kind_of op) fs items p q
unfolding step
other op fs items p q e h = bind (byte p) (λ op. act op.0 fs items p op.1) (op, q) e ∙ act_other op fs items p q h

pub other_step : (op : ℕ) (fs : List Frame) (items : List Instr) (p q : Place) (i : Instr) (r : Place) → byte p ≡ Ok (op, q) → IsOther op → instruction (kind_of op) p q ≡ Ok (i, r)
    → step fs items p ≡ Ok (More fs (items ++ i ∷ []) r)
other_step op fs items p q i r e h k = other op fs items p q e h ∙ bind (instruction (kind_of op) p q) (λ i. Ok (More fs (items ++ i.0 ∷ []) i.1)) (i, r) k

pub other_stops : (op : ℕ) (fs : List Frame) (items : List Instr) (p q : Place) (e : DecodeError) → byte p ≡ Ok (op, q) → IsOther op → IsFirstFault e (instruction (kind_of op) p q)
    → IsFirstFault e (step fs items p)
other_stops op fs items p q e b h s =
    stops_whole e (instruction (kind_of op) p q) (step fs items p) (λ d k. other op fs items p q b h ∙ ap (λ x. x >>= λ i. Ok (More fs (items ++ i.0 ∷ []) i.1)) k) s
