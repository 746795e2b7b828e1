-- The definitions computed on small codes, each of a file in which the code has the place 91.
use Rattle.std.proofs.Common.{◌≡◌, ℕ, List, [], ◌∷◌, true, false, Option, Some, None, Result, Ok, Err, pos, negsuc, refl}
use Rattle.ms_pool.specs.declared.code.ClassKind.TheVariants as kinds
use Rattle.ms_pool.specs.declared.code.RawHandler.{RawHandler}
use Rattle.ms_pool.specs.Places.{Place, beginning}
use Rattle.ms_words.specs.declared.thrown.Thrown.TheVariants.{Throwable}
use Rattle.ms_code.specs.declared.decoded.Step.{Step}
use Rattle.ms_code.specs.declared.instruction.Operand.{Operand}
use Rattle.ms_code.specs.declared.instruction.Operand.TheVariants.{Nothing, Word, Increment, Target, Cases}
use Rattle.ms_code.specs.declared.trouble.Trouble.{Trouble}
use Rattle.ms_code.specs.declared.trouble.Trouble.TheVariants.{Foreign, At}
use Rattle.ms_code.specs.Codes.{DecodedCode, decoded}
use Rattle.ms_code.specs.Instructions.{behind, case_of, instruction, lookup_case, lookup_switch, operand, s1, s2, s4, table_switch, wide_operand, widened}
use Rattle.ms_code.specs.Codes.{step}
use Rattle.ms_code.specs.Opcodes.{form_of}
use Rattle.ms_code.specs.Rows.{code_with}

-- what a code with this table is, in a file without constants
abbrev read_of : List ℕ → List RawHandler → Result DecodedCode Trouble
read_of code table = without_place ((decoded [] (code_with code 91 table 120)).read (beginning code))
  where
    without_place : Result (DecodedCode × Place) Trouble → Result DecodedCode Trouble
    without_place (Ok x) = Ok x.0
    without_place (Err trouble) = Err trouble

-- an instruction that starts here and one that doesn't
abbrev start : ℕ → Operand → ℕ → Option Step
start op operand next = Some (record { instr = record { op = op; wide = false; operand = operand }; next = next })

abbrev inside : Option Step
inside = None

-- iload_0, bipush 10, if_icmple to 8, iconst_1, ireturn, iconst_0, ireturn
compares : read_of (0x1a ∷ 0x10 ∷ 10 ∷ 0xa4 ∷ 0 ∷ 5 ∷ 4 ∷ 0xac ∷ 3 ∷ 0xac ∷ []) []
    ≡ Ok (record {
      steps = start 0x1a Nothing 1 ∷ start 0x10 (Word (pos 10)) 3 ∷ inside ∷ start 0xa4 (Target 8) 6 ∷ inside ∷ inside ∷ start 4 Nothing 7 ∷ start 0xac Nothing 8 ∷ start 3 Nothing 9 ∷ start 0xac Nothing 10 ∷ [];
      handlers = [];
    })
unfolding decoded step instruction behind operand form_of s1 s2
compares = refl

-- a bipush without its byte
cut_short : read_of (0x10 ∷ []) [] ≡ Err (At kinds.Cut 91)
unfolding decoded step instruction behind operand form_of s1
cut_short = refl

-- an invokedynamic
foreign_opcode : read_of (0xba ∷ 0x10 ∷ []) [] ≡ Err Foreign
unfolding decoded step instruction form_of
foreign_opcode = refl

-- a goto into itself, one to before the code, one to behind it
goto_within : read_of (0xa7 ∷ 0 ∷ 1 ∷ []) [] ≡ Err (At kinds.Target 91)
unfolding decoded step instruction behind operand form_of s2
goto_within = refl

goto_before : read_of (0 ∷ 0xa7 ∷ 0xff ∷ 0xfe ∷ []) [] ≡ Err (At kinds.Target 92)
unfolding decoded step instruction behind operand form_of s2
goto_before = refl

goto_behind : read_of (0xa7 ∷ 0 ∷ 3 ∷ []) [] ≡ Err (At kinds.Target 91)
unfolding decoded step instruction behind operand form_of s2
goto_behind = refl

-- an iinc behind wide
widened_increment : read_of (0xc4 ∷ 0x84 ∷ 1 ∷ 0 ∷ 0xff ∷ 0xfe ∷ []) []
    ≡ Ok (record { steps = Some (record { instr = record { op = 0x84; wide = true; operand = Increment 256 (negsuc 1) }; next = 6 }) ∷ inside ∷ inside ∷ inside ∷ inside ∷ inside ∷ []; handlers = [] })
unfolding decoded step instruction behind widened wide_operand form_of s2
widened_increment = refl

-- a tableswitch from 5 to 6, both to itself, the default to the return behind it
table : read_of (0xaa ∷ 0 ∷ 0 ∷ 0 ∷ 0 ∷ 0 ∷ 0 ∷ 24 ∷ 0 ∷ 0 ∷ 0 ∷ 5 ∷ 0 ∷ 0 ∷ 0 ∷ 6 ∷ 0 ∷ 0 ∷ 0 ∷ 0 ∷ 0 ∷ 0 ∷ 0 ∷ 0 ∷ 0xb1 ∷ []) []
    ≡ Ok (record {
      steps = start 0xaa (Cases (record { cases = record { key = pos 5; target = 0 } ∷ record { key = pos 6; target = 0 } ∷ []; otherwise = 24 })) 24
          ∷ inside ∷ inside ∷ inside ∷ inside ∷ inside ∷ inside ∷ inside ∷ inside ∷ inside ∷ inside ∷ inside ∷ inside ∷ inside ∷ inside ∷ inside ∷ inside ∷ inside ∷ inside ∷ inside ∷ inside ∷ inside ∷ inside ∷ inside
          ∷ start 0xb1 Nothing 25 ∷ [];
      handlers = [];
    })
unfolding decoded step instruction behind operand table_switch case_of form_of s4
table = refl

-- its low key above its high one, which counts before the targets are missing
table_in_disorder : read_of (0xaa ∷ 0 ∷ 0 ∷ 0 ∷ 0 ∷ 0 ∷ 0 ∷ 24 ∷ 0 ∷ 0 ∷ 0 ∷ 7 ∷ 0 ∷ 0 ∷ 0 ∷ 6 ∷ []) [] ≡ Err (At kinds.Switch 91)
unfolding decoded step instruction behind operand table_switch case_of form_of s4
table_in_disorder = refl

-- two equal keys of a lookupswitch
lookup_in_disorder : read_of (0 ∷ 0 ∷ 0 ∷ 0xab ∷ 0 ∷ 0 ∷ 0 ∷ 0 ∷ 0 ∷ 0 ∷ 0 ∷ 2 ∷ 0 ∷ 0 ∷ 0 ∷ 1 ∷ 0 ∷ 0 ∷ 0 ∷ 0 ∷ 0 ∷ 0 ∷ 0 ∷ 1 ∷ 0 ∷ 0 ∷ 0 ∷ 0 ∷ []) [] ≡ Err (At kinds.Switch 94)
unfolding decoded step instruction behind operand lookup_switch lookup_case case_of form_of s4
lookup_in_disorder = refl

-- a table whose range ends at the end of the code, and one whose range is empty
covered : read_of (0xb1 ∷ 0xbf ∷ []) (record { start = 0; «end» = 2; handler = 1; catch_type = 0 } ∷ [])
    ≡ Ok (record { steps = start 0xb1 Nothing 1 ∷ start 0xbf Nothing 2 ∷ []; handlers = record { start = 0; «end» = 2; target = 1; catches = Throwable } ∷ [] })
unfolding decoded step instruction behind operand form_of
covered = refl

covers_nothing : read_of (0xb1 ∷ 0xbf ∷ []) (record { start = 0; «end» = 2; handler = 1; catch_type = 0 } ∷ record { start = 1; «end» = 1; handler = 1; catch_type = 0 } ∷ []) ≡ Err (At kinds.Target 128)
unfolding decoded step instruction behind operand form_of
covers_nothing = refl

-- a handler of no class
catches_nothing : read_of (0xb1 ∷ 0xbf ∷ []) (record { start = 0; «end» = 2; handler = 1; catch_type = 7 } ∷ []) ≡ Err Foreign
unfolding decoded step instruction behind operand form_of
catches_nothing = refl
