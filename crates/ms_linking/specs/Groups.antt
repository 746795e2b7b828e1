-- The opcodes of the subset, and what the machine does for each (JVMS SE 8, section 6.5).
use Rattle.std.specs.Prelude.{ℕ, pos, negsuc, Bool, true, false, List, [], ◌∷◌, ◌==◌, Option, option_map, find}
use Rattle.ms_words.specs.declared.operator.Un.TheVariants.{Neg, I2b, I2c, I2s}
use Rattle.ms_words.specs.declared.operator.Bin.TheVariants.{Add, Sub, Mul, Div, Rem, Shl, Shr, Ushr, And, Or, Xor}
use Rattle.ms_machine.specs.Instructions.{Equal, NotEqual, Less, AtLeast, Greater, AtMost, Sort, OfInt, OfReference, Instr, Skip, Push, PushNull, Load, Store, Shuffle, Change, Combine, Divide, Compare, CompareZero, CompareReferences, CompareNull, Goto, ReturnValue, ReturnVoid, Throw, NewArray, ArrayLength, ArrayLoad, ArrayStore}

-- what the machine does for an opcode, by what else it takes to say it; where a branch leads is no part of it
pub data Group : Type 0 where
  -- nothing else
  Fixed : Instr → Group
  -- a word behind the opcode, which is put on the stack
  OfWord : Group
  -- a constant of the pool, which is put on the stack
  OfConstant : Group
  -- a local, of which the value is put on the stack
  OfLoad : Sort → Group
  -- a local, into which a value is taken
  OfStore : Sort → Group
  -- a local, and what is added to it
  OfIncrement : Group
  -- the keys of a switch
  OfSwitch : Group
  -- a field with its type and the int that it is at first, of which the value is put on the stack
  OfGetStatic : Group
  -- a field with its type, into which a value is taken
  OfPutStatic : Group
  -- a method with its signature, which is called
  OfInvoke : Group
  -- a constructor of a throwable
  OfConstruct : Group
  -- a throwable, which is made
  OfNew : Group

-- an opcode and what the machine does for it
abbrev pub Row : Type 0
Row = ℕ × Group

-- The opcodes, in order. `wide` has no row: an opcode behind it does what it does without it.
abbrev pub groups : List Row
groups =
    -- constants
    (0, Fixed Skip) ∷  -- nop
    (1, Fixed PushNull) ∷  -- aconst_null
    (2, Fixed (Push (negsuc 0))) ∷  -- iconst_m1
    (3, Fixed (Push (pos 0))) ∷  -- iconst_0
    (4, Fixed (Push (pos 1))) ∷  -- iconst_1
    (5, Fixed (Push (pos 2))) ∷  -- iconst_2
    (6, Fixed (Push (pos 3))) ∷  -- iconst_3
    (7, Fixed (Push (pos 4))) ∷  -- iconst_4
    (8, Fixed (Push (pos 5))) ∷  -- iconst_5
    (16, OfWord) ∷  -- bipush
    (17, OfWord) ∷  -- sipush
    (18, OfConstant) ∷  -- ldc
    (19, OfConstant) ∷  -- ldc_w
    -- loads and stores
    (21, OfLoad OfInt) ∷  -- iload
    (25, OfLoad OfReference) ∷  -- aload
    (26, Fixed (Load OfInt 0)) ∷  -- iload_0
    (27, Fixed (Load OfInt 1)) ∷  -- iload_1
    (28, Fixed (Load OfInt 2)) ∷  -- iload_2
    (29, Fixed (Load OfInt 3)) ∷  -- iload_3
    (42, Fixed (Load OfReference 0)) ∷  -- aload_0
    (43, Fixed (Load OfReference 1)) ∷  -- aload_1
    (44, Fixed (Load OfReference 2)) ∷  -- aload_2
    (45, Fixed (Load OfReference 3)) ∷  -- aload_3
    (46, Fixed ArrayLoad) ∷  -- iaload
    (54, OfStore OfInt) ∷  -- istore
    (58, OfStore OfReference) ∷  -- astore
    (59, Fixed (Store OfInt 0)) ∷  -- istore_0
    (60, Fixed (Store OfInt 1)) ∷  -- istore_1
    (61, Fixed (Store OfInt 2)) ∷  -- istore_2
    (62, Fixed (Store OfInt 3)) ∷  -- istore_3
    (75, Fixed (Store OfReference 0)) ∷  -- astore_0
    (76, Fixed (Store OfReference 1)) ∷  -- astore_1
    (77, Fixed (Store OfReference 2)) ∷  -- astore_2
    (78, Fixed (Store OfReference 3)) ∷  -- astore_3
    (79, Fixed ArrayStore) ∷  -- iastore
    -- the stack
    (87, Fixed (Shuffle 1 [])) ∷  -- pop
    (88, Fixed (Shuffle 2 [])) ∷  -- pop2
    (89, Fixed (Shuffle 1 (0 ∷ 0 ∷ []))) ∷  -- dup
    (90, Fixed (Shuffle 2 (0 ∷ 1 ∷ 0 ∷ []))) ∷  -- dup_x1
    (91, Fixed (Shuffle 3 (0 ∷ 1 ∷ 2 ∷ 0 ∷ []))) ∷  -- dup_x2
    (92, Fixed (Shuffle 2 (0 ∷ 1 ∷ 0 ∷ 1 ∷ []))) ∷  -- dup2
    (93, Fixed (Shuffle 3 (0 ∷ 1 ∷ 2 ∷ 0 ∷ 1 ∷ []))) ∷  -- dup2_x1
    (94, Fixed (Shuffle 4 (0 ∷ 1 ∷ 2 ∷ 3 ∷ 0 ∷ 1 ∷ []))) ∷  -- dup2_x2
    (95, Fixed (Shuffle 2 (1 ∷ 0 ∷ []))) ∷  -- swap
    -- arithmetic
    (96, Fixed (Combine Add)) ∷  -- iadd
    (100, Fixed (Combine Sub)) ∷  -- isub
    (104, Fixed (Combine Mul)) ∷  -- imul
    (108, Fixed (Divide Div)) ∷  -- idiv
    (112, Fixed (Divide Rem)) ∷  -- irem
    (116, Fixed (Change Neg)) ∷  -- ineg
    (120, Fixed (Combine Shl)) ∷  -- ishl
    (122, Fixed (Combine Shr)) ∷  -- ishr
    (124, Fixed (Combine Ushr)) ∷  -- iushr
    (126, Fixed (Combine And)) ∷  -- iand
    (128, Fixed (Combine Or)) ∷  -- ior
    (130, Fixed (Combine Xor)) ∷  -- ixor
    (132, OfIncrement) ∷  -- iinc
    (145, Fixed (Change I2b)) ∷  -- i2b
    (146, Fixed (Change I2c)) ∷  -- i2c
    (147, Fixed (Change I2s)) ∷  -- i2s
    -- branches
    (153, Fixed (CompareZero Equal)) ∷  -- ifeq
    (154, Fixed (CompareZero NotEqual)) ∷  -- ifne
    (155, Fixed (CompareZero Less)) ∷  -- iflt
    (156, Fixed (CompareZero AtLeast)) ∷  -- ifge
    (157, Fixed (CompareZero Greater)) ∷  -- ifgt
    (158, Fixed (CompareZero AtMost)) ∷  -- ifle
    (159, Fixed (Compare Equal)) ∷  -- if_icmpeq
    (160, Fixed (Compare NotEqual)) ∷  -- if_icmpne
    (161, Fixed (Compare Less)) ∷  -- if_icmplt
    (162, Fixed (Compare AtLeast)) ∷  -- if_icmpge
    (163, Fixed (Compare Greater)) ∷  -- if_icmpgt
    (164, Fixed (Compare AtMost)) ∷  -- if_icmple
    (165, Fixed (CompareReferences true)) ∷  -- if_acmpeq
    (166, Fixed (CompareReferences false)) ∷  -- if_acmpne
    (167, Fixed Goto) ∷  -- goto
    (170, OfSwitch) ∷  -- tableswitch
    (171, OfSwitch) ∷  -- lookupswitch
    -- returns
    (172, Fixed (ReturnValue OfInt)) ∷  -- ireturn
    (176, Fixed (ReturnValue OfReference)) ∷  -- areturn
    (177, Fixed ReturnVoid) ∷  -- return
    -- members, throwables and arrays
    (178, OfGetStatic) ∷  -- getstatic
    (179, OfPutStatic) ∷  -- putstatic
    (183, OfConstruct) ∷  -- invokespecial
    (184, OfInvoke) ∷  -- invokestatic
    (187, OfNew) ∷  -- new
    (188, Fixed NewArray) ∷  -- newarray
    (190, Fixed ArrayLength) ∷  -- arraylength
    (191, Fixed Throw) ∷  -- athrow
    -- more branches
    (198, Fixed (CompareNull true)) ∷  -- ifnull
    (199, Fixed (CompareNull false)) ∷  -- ifnonnull
    (200, Fixed Goto) ∷  -- goto_w
    []

-- whether the row has this opcode
abbrev pub has : ℕ → Row → Bool
has op row = row.0 == op

-- what the machine does for an opcode, where it is one of these
unfoldable pub group_of : ℕ → Option Group
group_of op = option_map (λ (row : Row). row.1) (find (has op) groups)
