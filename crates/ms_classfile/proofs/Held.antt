-- The constant pool of a class file stands behind its header.
use Rattle.std.proofs.Common.{◌≡◌, ℕ, List, [], drop, Ok, sym, ap, subst, ◌∙◌}
use Rattle.std.specs.Prelude.{◌&&◌, ◌==◌, nat_le}
use Rattle.std.proofs.lemmas.List.{drop-drop}
use Rattle.ms_pool.specs.declared.code.ClassKind.TheVariants as kinds
use Rattle.ms_pool.specs.Places.{Place, beginning, behind, place_in}
use Rattle.ms_pool.specs.Numbers.{IsBytes}
use Rattle.ms_pool.specs.Pools.{Entry, IsPool, numbered}
use Rattle.ms_pool.specs.ByNumber.{entries_in, places_of}
use Rattle.ms_pool.specs.Formats.{added, check, end, number}
use Rattle.ms_pool.specs.Exact.{enough_ok, ok_is, then_ok}
use Rattle.ms_classfile.specs.declared.fault.ClassFault.{ClassFault}
use Rattle.ms_classfile.specs.declared.fault.ClassFault.TheVariants.{At}
use Rattle.ms_classfile.specs.ClassFile.{Class, IsClassFile, attribute, class_and_super, class_file, counted, field, header, interface, method, pool, short, u2, u4}
use Rattle.ms_classfile.proofs.Exact.{class_file_exact, header_fits, pool_exact}
use Rattle.ms_classfile.proofs.Lying.{check_stays}

moved : (n : ℕ) (place : Place) (x : ℕ × Place) → (number short n).read place ≡ Ok x → x.1 ≡ behind place n
moved n place x found = ap (λ (y : ℕ × Place). y.1) (sym (enough_ok short n place _ x found).1)

-- a header has eight bytes
header_moves : (file : List ℕ) (x : ℕ × Place) → header.read (beginning file) ≡ Ok x → x.1 ≡ place_in file 8
unfolding header
header_moves file x found =
    then_ok ((u4 short).read (beginning file)) _ x found (λ magic is_magic rest.
    then_ok ((check (magic.0 == 0xCAFEBABE) (At kinds.Magic 0)).read magic.1) _ x rest (λ right is_right rest.
    then_ok ((u2 short).read right.1) _ x rest (λ minor is_minor rest.
    then_ok ((u2 short).read minor.1) _ x rest (λ major is_major rest.
    then_ok ((check (nat_le 45 major.0 && nat_le major.0 52) (At kinds.Version minor.1.at)).read major.1) _ x rest (λ known is_known last.
    let one = moved 4 (beginning file) magic is_magic in
    let two = (check_stays (magic.0 == 0xCAFEBABE) (At kinds.Magic 0) magic.1 right is_right).1 in
    let three = moved 2 right.1 minor is_minor in
    let four = moved 2 minor.1 major is_major in
    let five = (check_stays (nat_le 45 major.0 && nat_le major.0 52) (At kinds.Version minor.1.at) major.1 known is_known).1 in
    let six : x.1 ≡ known.1 = ap (λ (y : ℕ × Place). y.1) (sym (ok_is {Fault = ClassFault} (major.0, known.1) x last)) in
    let there : x.1 ≡ behind (behind (behind (beginning file) 4) 2) 2 =
    six ∙ five ∙ four ∙ ap (λ (p : Place). behind p 2) (three ∙ ap (λ (p : Place). behind p 2) (two ∙ one)) in
    there ∙ ap (λ (left : List ℕ). record { at = 8; left = left }) (ap (λ (left : List ℕ). drop 2 left) (drop-drop 2 4 file) ∙ drop-drop 2 6 file))))))

module _ (index : (bytes : List ℕ) (at : ℕ) (entries : List Entry) (after : Place) → IsPool (place_in bytes at) entries after → entries_in bytes (places_of (numbered at entries)) ≡ numbered at entries) where
  -- the places of the pool of a class file lead to it
  pub pool_held : (file : List ℕ) (class : Class) → IsBytes file → IsClassFile file class → entries_in file (places_of class.pool) ≡ class.pool
  unfolding class_file pool
  pool_held file class bytes is =
      let found = class_file_exact.reads (beginning file) class is.after bytes is.is in
      then_ok (header.read (beginning file)) _ (class, is.after) found (λ major is_major rest.
      let there = header_moves file major is_major in
      then_ok (pool.read major.1) _ (class, is.after) rest (λ slots is_slots rest.
      let one = pool_exact.spells major.1 slots (header_fits file major.0 major.1 bytes is_major) is_slots in
      let at : major.1.at ≡ 8 = ap (λ (p : Place). p.at) there in
      let held : entries_in file (places_of slots.0) ≡ slots.0 =
      ap (λ s. entries_in file (places_of s)) (one.slots_are ∙ ap (λ (n : ℕ). numbered n one.entries) at)
      ∙ index file 8 one.entries slots.1 (subst (λ (p : Place). IsPool p one.entries slots.1) there one.is)
      ∙ sym (one.slots_are ∙ ap (λ (n : ℕ). numbered n one.entries) at) in
      then_ok ((class_and_super slots.0).read slots.1) _ (class, is.after) rest (λ this is_this rest.
      then_ok ((counted short interface tt).read this.1) _ (class, is.after) rest (λ interfaces are_interfaces rest.
      then_ok ((counted short (added (field slots.0)) []).read interfaces.1) _ (class, is.after) rest (λ fields are_fields rest.
      then_ok ((counted short (added (method slots.0)) []).read fields.1) _ (class, is.after) rest (λ methods are_methods rest.
      then_ok ((counted short (attribute short slots.0) tt).read methods.1) _ (class, is.after) rest (λ attributes are_attributes rest.
      then_ok ((end (λ at. At kinds.Trailing at)).read attributes.1) _ (class, is.after) rest (λ ended is_ended last.
      subst (λ (y : Class × Place). entries_in file (places_of y.0.pool) ≡ y.0.pool) (ok_is {Fault = ClassFault} (record { major = major.0; pool = slots.0; name = this.0.1; this_index = this.0.0; fields = fields.0; methods = methods.0 }, ended.1) (class, is.after) last) held))))))))
