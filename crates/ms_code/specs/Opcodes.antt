-- The instructions that are decoded, by their opcodes (JVMS SE 8, section 6.5). A method whose code has another one, and
-- no fault before it, is foreign.
use Rattle.std.specs.Prelude.{ℕ, List, [], ◌∷◌, Bool, ◌&&◌, nat_le, Option, option_map, find}
use Rattle.ms_code.specs.declared.form.Form.{Form}
use Rattle.ms_code.specs.declared.form.Form.TheVariants.{Plain, SignedByte, SignedShort, ConstantByte, ConstantShort, LocalIndex, LocalAndByte, BranchShort, TableCases, LookupCases, FieldIndex, ConstructorIndex, MethodIndex, ClassIndex, ArrayType, Widened, BranchInt}

-- opcodes from a first to a last one, and the form of what stands behind each of them
abbrev pub Row : Type 0
Row = ℕ × ℕ × Form

-- all of them
abbrev pub subset : List Row
subset =
    (0, 8, Plain) ∷  -- nop, aconst_null, iconst_m1, iconst_0 to iconst_5
    (16, 16, SignedByte) ∷  -- bipush
    (17, 17, SignedShort) ∷  -- sipush
    (18, 18, ConstantByte) ∷  -- ldc
    (19, 19, ConstantShort) ∷  -- ldc_w
    (21, 21, LocalIndex) ∷  -- iload
    (25, 25, LocalIndex) ∷  -- aload
    (26, 29, Plain) ∷  -- iload_0 to iload_3
    (42, 46, Plain) ∷  -- aload_0 to aload_3, iaload
    (54, 54, LocalIndex) ∷  -- istore
    (58, 58, LocalIndex) ∷  -- astore
    (59, 62, Plain) ∷  -- istore_0 to istore_3
    (75, 79, Plain) ∷  -- astore_0 to astore_3, iastore
    (87, 96, Plain) ∷  -- pop, pop2, dup, dup_x1, dup_x2, dup2, dup2_x1, dup2_x2, swap, iadd
    (100, 100, Plain) ∷  -- isub
    (104, 104, Plain) ∷  -- imul
    (108, 108, Plain) ∷  -- idiv
    (112, 112, Plain) ∷  -- irem
    (116, 116, Plain) ∷  -- ineg
    (120, 120, Plain) ∷  -- ishl
    (122, 122, Plain) ∷  -- ishr
    (124, 124, Plain) ∷  -- iushr
    (126, 126, Plain) ∷  -- iand
    (128, 128, Plain) ∷  -- ior
    (130, 130, Plain) ∷  -- ixor
    (132, 132, LocalAndByte) ∷  -- iinc
    (145, 147, Plain) ∷  -- i2b, i2c, i2s
    (153, 158, BranchShort) ∷  -- ifeq, ifne, iflt, ifge, ifgt, ifle
    (159, 164, BranchShort) ∷  -- if_icmpeq, if_icmpne, if_icmplt, if_icmpge, if_icmpgt, if_icmple
    (165, 167, BranchShort) ∷  -- if_acmpeq, if_acmpne, goto
    (170, 170, TableCases) ∷  -- tableswitch
    (171, 171, LookupCases) ∷  -- lookupswitch
    (172, 172, Plain) ∷  -- ireturn
    (176, 177, Plain) ∷  -- areturn, return
    (178, 179, FieldIndex) ∷  -- getstatic, putstatic
    (183, 183, ConstructorIndex) ∷  -- invokespecial
    (184, 184, MethodIndex) ∷  -- invokestatic
    (187, 187, ClassIndex) ∷  -- new
    (188, 188, ArrayType) ∷  -- newarray
    (190, 191, Plain) ∷  -- arraylength, athrow
    (196, 196, Widened) ∷  -- wide
    (198, 199, BranchShort) ∷  -- ifnull, ifnonnull
    (200, 200, BranchInt) ∷  -- goto_w
    []

-- whether the row has this opcode
abbrev pub has : ℕ → Row → Bool
has op row = nat_le row.0 op && nat_le op row.1

-- the form of what stands behind an opcode, where it is one of these
unfoldable pub form_of : ℕ → Option Form
form_of op = option_map (λ row. row.2) (find (has op) subset)
