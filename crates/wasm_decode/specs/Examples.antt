-- Modules in bytes; their trees are the test modules.
use Rattle.std.specs.Prelude.{ℕ, List, ◌++◌, codes, take, drop}
use Rattle.wasm_code.specs.Examples.{hex}

-- a module whose function `handle` is a loop without an end
abbrev pub spin_bytes : List ℕ
spin_bytes = hex (codes "0061736d01000000" ++ codes "010401600000" ++ codes "03020100" ++ codes "070a010668616e646c650000"
    ++ codes "0a0901070003400c000b0b")

-- the same with `f32.const 0`, dropped, in place of the loop
abbrev pub float_bytes : List ℕ
float_bytes = hex (codes "0061736d01000000" ++ codes "010401600000" ++ codes "03020100" ++ codes "070a010668616e646c650000"
    ++ codes "0a0a01080043000000001a0b")

-- a module that replies with its input, by two imported functions
abbrev pub echo_bytes : List ℕ
echo_bytes = hex (codes "0061736d01000000" ++ codes "010f0360027f7f017f60027f7f00600000"
    ++ codes "0221020774726170657a6505696e70757400000774726170657a65057265706c790001" ++ codes "03020102" ++ codes "0503010001"
    ++ codes "070a010668616e646c650002" ++ codes "0a10010e004100410041808004100010010b")

-- the same with a table, 17 pages, a global that can be set, an exported memory, indices of five bytes and a custom section
abbrev pub built_bytes : List ℕ
built_bytes = hex (codes "0061736d01000000" ++ codes "010f0360027f7f017f60027f7f00600000"
    ++ codes "0221020774726170657a6505696e70757400000774726170657a65057265706c790001" ++ codes "03020102" ++ codes "04050170010101"
    ++ codes "0503010011" ++ codes "0609017f01418080c0000b" ++ codes "071302066d656d6f727902000668616e646c650002"
    ++ codes "0a180116004100410041808004108080808000108180808000" ++ codes "0b" ++ codes "0005046e616d65")

-- the module that replies, with other bytes for the size of its first section, which takes one
abbrev pub with_size : List ℕ → List ℕ
with_size size = take 9 echo_bytes ++ size ++ drop 10 echo_bytes

-- a module that fills, copies and stores a few bytes, and replies with eight; with a count of its data segments
abbrev pub fill_bytes : List ℕ
fill_bytes = hex (codes "0061736d01000000" ++ codes "01090260027f7f00600000" ++ codes "0211010774726170657a65057265706c790000"
    ++ codes "03020101" ++ codes "0503010001" ++ codes "070a010668616e646c650001" ++ codes "0c0100"
    ++ codes "0a26012400410041074102fc0b00410141004102fc0a00004104418001c03602004100410810000b")
