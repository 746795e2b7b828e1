-- In a pool each entry names what it should, so that what is said of a number is there exactly where the tag is.
use Rattle.std.proofs.Common.{◌≡◌, ℕ, zero, suc, ◌+◌, ◌<◌, ◌≤◌, Bool, true, false, cond, not, List, [], ◌∷◌, ◌++◌, length, Option, Some, None, refl, ap, sym, subst, ◌∙◌, length-append, arith, inl, inr, is_some, option_and_then, option_map}
use Rattle.std.specs.Prelude.{◌==◌, ◌||◌, ◌&&◌}
use Rattle.std.specs.Int.{cast_signed, w32}
use Rattle.std.specs.List.{AllByRecursion, list_all}
use Rattle.std.proofs.lemmas.Bool.{eqb-true}
use Rattle.ms_pool.specs.Places.{Place}
use Rattle.ms_pool.specs.Pools.{Entry, Utf8, Word, Wide, One, Two, Handle, IsEntry, IsPool, IsPoolOf, Placed, numbered, first_unlinked, has_tag, has_tag_of, is_linked, is_one_tag, is_two_tag, is_unlinked, is_wide_tag, is_word_tag, placed, placed_at, slots_of, spelled_entry, tag_of, width}
use Rattle.ms_pool.specs.ByNumber.{class_name, entry_of, integer, is_member, is_member_tag, member, int_held, member_held, referred, text_held, string_text, text_named, utf8}
use Rattle.ms_pool.proofs.Again.{at_tag, or_cases}
use Rattle.ms_pool.proofs.Lists.{which}
use Rattle.ms_pool.proofs.Placing.{many_slots}

-- the entries by their numbers are as many as the numbers that they take
pub many_placed : (at : ℕ) (entries : List Entry) → length (placed at entries) ≡ width entries
many_placed at [] = refl
many_placed at (entry ∷ entries) =
    omega (arith, length-append (slots_of at entry) (placed (at + length (spelled_entry entry)) entries), many_slots (is_wide_tag (tag_of entry)) (Some (record { at = at; entry = entry })), many_placed (at + length (spelled_entry entry)) entries)

-- what stands under numbers: entries with a tag of their form, whose names have the tags that are wanted
pub record IsSound (slots : List (Option Placed)) : Type 0 where
  pub entry : (i : ℕ) (p : Placed) → placed_at slots i ≡ Some p → IsEntry p.entry
  pub linked : (i : ℕ) (p : Placed) → placed_at slots i ≡ Some p → is_linked slots p.entry ≡ true

some_is : (p q : Placed) → ◌≡◌ {A = Option Placed} (Some p) (Some q) → p ≡ q
some_is p q e = cc

pub sound_at : (at : ℕ) (entries : List Entry) → AllByRecursion IsEntry entries → (i : ℕ) (p : Placed) → placed_at (placed at entries) i ≡ Some p → IsEntry p.entry
sound_at at [] sound i p is = absurd cc
sound_at at (entry ∷ entries) sound i p is = by_width (is_wide_tag (tag_of entry)) (λ i p is. sound_at (at + length (spelled_entry entry)) entries sound.1 i p is) i is
  where
    by_width : (wide : Bool) → ((i : ℕ) (p : Placed) → placed_at (placed (at + length (spelled_entry entry)) entries) i ≡ Some p → IsEntry p.entry) → (i : ℕ) → placed_at (cond wide (Some (record { at = at; entry = entry }) ∷ None ∷ []) (Some (record { at = at; entry = entry }) ∷ []) ++ placed (at + length (spelled_entry entry)) entries) i ≡ Some p → IsEntry p.entry
    by_width true more zero is = subst (λ (q : Placed). IsEntry q.entry) (some_is (record { at = at; entry = entry }) p is) sound.0
    by_width true more (suc zero) is = absurd cc
    by_width true more (suc (suc i)) is = more i p is
    by_width false more zero is = subst (λ (q : Placed). IsEntry q.entry) (some_is (record { at = at; entry = entry }) p is) sound.0
    by_width false more (suc i) is = more i p is

linked_at : (all slots : List (Option Placed)) → first_unlinked all slots ≡ None → (i : ℕ) (p : Placed) → placed_at slots i ≡ Some p → is_linked all p.entry ≡ true
linked_at all [] none i p is = absurd cc
linked_at all (slot ∷ slots) none i p is = by_first (λ none i is. linked_at all slots none i p is) slot none i is
  where
    by_test : (b : Bool) (q : Placed) → is_linked all q.entry ≡ b → cond (not b) (Some q) (first_unlinked all slots) ≡ None → (b ≡ true) × (first_unlinked all slots ≡ None)
    by_test true q same none = (refl, none)
    by_test false q same none = absurd cc

    by_first : (first_unlinked all slots ≡ None → (i : ℕ) → placed_at slots i ≡ Some p → is_linked all p.entry ≡ true) → (slot : Option Placed) → cond (is_unlinked all slot) slot (first_unlinked all slots) ≡ None → (i : ℕ) → placed_at (slot ∷ slots) i ≡ Some p → is_linked all p.entry ≡ true
    by_first more None none zero is = absurd cc
    by_first more None none (suc i) is = more none i is
    by_first more (Some q) none zero is =
        let both = by_test (is_linked all q.entry) q refl none in
        subst (λ (r : Placed). is_linked all r.entry ≡ true) (some_is q p is) both.0
    by_first more (Some q) none (suc i) is = more (by_test (is_linked all q.entry) q refl none).1 i is

pub pool_is_sound : (place after : Place) (entries : List Entry) → IsPool place entries after → IsSound (numbered place.at entries)
pool_is_sound place after entries is = record { entry = each; linked = linked_at (numbered place.at entries) (numbered place.at entries) is.linked }
  where
    each : (i : ℕ) (p : Placed) → placed_at (numbered place.at entries) i ≡ Some p → IsEntry p.entry
    each zero p found = absurd cc
    each (suc i) p found = sound_at (place.at + 2) entries is.spelled.fit i p found

-- WHICH TAGS A FORM HAS NOT

word_not : (k tag : ℕ) → (3 == k) ≡ false → (4 == k) ≡ false → is_word_tag tag ≡ true → (tag == k) ≡ false
word_not k tag a b is = elim (or_cases (tag == 3) (tag == 4) is) [
  | inl e ↦ at_tag (λ (t : ℕ). (t == k) ≡ false) tag 3 e a
  | inr e ↦ at_tag (λ (t : ℕ). (t == k) ≡ false) tag 4 e b
]

wide_not : (k tag : ℕ) → (5 == k) ≡ false → (6 == k) ≡ false → is_wide_tag tag ≡ true → (tag == k) ≡ false
wide_not k tag a b is = elim (or_cases (tag == 5) (tag == 6) is) [
  | inl e ↦ at_tag (λ (t : ℕ). (t == k) ≡ false) tag 5 e a
  | inr e ↦ at_tag (λ (t : ℕ). (t == k) ≡ false) tag 6 e b
]

one_not : (k tag : ℕ) → (7 == k) ≡ false → (8 == k) ≡ false → (16 == k) ≡ false → is_one_tag tag ≡ true → (tag == k) ≡ false
one_not k tag a b d is = elim (or_cases (tag == 7) _ is) [
  | inl e ↦ at_tag (λ (t : ℕ). (t == k) ≡ false) tag 7 e a
  | inr more ↦ elim (or_cases (tag == 8) (tag == 16) more) [
    | inl e ↦ at_tag (λ (t : ℕ). (t == k) ≡ false) tag 8 e b
    | inr e ↦ at_tag (λ (t : ℕ). (t == k) ≡ false) tag 16 e d
  ]
]

-- no field, method or NameAndType has a tag below 9
two_not : (k tag : ℕ) → k < 9 → is_two_tag tag ≡ true → (tag == k) ≡ false
two_not k tag low is = elim (which (tag == k)) [
  | inl e ↦ absurd (omega (arith, low, eqb-true tag k e, nine tag is))
  | inr other ↦ other
]
  where
    nine : (tag : ℕ) → is_two_tag tag ≡ true → ◌≤◌ 9 tag
    nine tag is = elim (or_cases (tag == 9) _ is) [
      | inl e ↦ omega (arith, eqb-true tag 9 e)
      | inr more ↦ elim (or_cases (tag == 10) _ more) [
        | inl e ↦ omega (arith, eqb-true tag 10 e)
        | inr more ↦ elim (or_cases (tag == 11) _ more) [
          | inl e ↦ omega (arith, eqb-true tag 11 e)
          | inr more ↦ elim (or_cases (tag == 12) (tag == 18) more) [
            | inl e ↦ omega (arith, eqb-true tag 12 e)
            | inr e ↦ omega (arith, eqb-true tag 18 e)
          ]
        ]
      ]
    ]

-- WHAT IS SAID OF A NUMBER

abbrev holds_of : (Entry → Bool) → Option Placed → Bool
holds_of has None = false
holds_of has (Some p) = has p.entry

-- what is got of an entry is there exactly where the entry has something
got_where : {X : Type 0} (get : Entry → Option X) (has : Entry → Bool) (slot : Option Placed) → ((p : Placed) → slot ≡ Some p → is_some (get p.entry) ≡ has p.entry) → is_some (option_and_then get (option_map (λ placed. placed.entry) slot)) ≡ holds_of has slot
got_where get has None each = refl
got_where get has (Some p) each = each p refl

tag_held : (k : ℕ) (slot : Option Placed) → holds_of (λ entry. tag_of entry == k) slot ≡ has_tag_of k slot
tag_held k None = refl
tag_held k (Some p) = refl

pub utf8_where : (slots : List (Option Placed)) → IsSound slots → (i : ℕ) → is_some (utf8 slots i) ≡ has_tag slots i 1
utf8_where slots sound i =
    got_where text_held (λ entry. tag_of entry == 1) (placed_at slots i) (λ p is. by_entry p.entry (sound.entry i p is)) ∙ tag_held 1 (placed_at slots i)
  where
    by_entry : (entry : Entry) → IsEntry entry → is_some (text_held entry) ≡ (tag_of entry == 1)
    by_entry (Utf8 text) fits = refl
    by_entry (Word tag number) fits = sym (word_not 1 tag refl refl fits.0)
    by_entry (Wide tag bytes) fits = sym (wide_not 1 tag refl refl fits.0)
    by_entry (One tag index) fits = sym (one_not 1 tag refl refl refl fits.0)
    by_entry (Two tag first second) fits = sym (two_not 1 tag (omega arith) fits.0)
    by_entry (Handle kind index) fits = refl

some_if : {X : Type 0} (test : Bool) (x : X) → is_some (cond test (Some x) None) ≡ test
some_if true x = refl
some_if false x = refl

pub integer_where : (slots : List (Option Placed)) → IsSound slots → (i : ℕ) → is_some (integer slots i) ≡ has_tag slots i 3
integer_where slots sound i =
    got_where int_held (λ entry. tag_of entry == 3) (placed_at slots i) (λ p is. by_entry p.entry (sound.entry i p is)) ∙ tag_held 3 (placed_at slots i)
  where
    by_entry : (entry : Entry) → IsEntry entry → is_some (int_held entry) ≡ (tag_of entry == 3)
    by_entry (Utf8 text) fits = refl
    by_entry (Word tag number) fits = some_if (tag == 3) (cast_signed w32 number)
    by_entry (Wide tag bytes) fits = sym (wide_not 3 tag refl refl fits.0)
    by_entry (One tag index) fits = sym (one_not 3 tag refl refl refl fits.0)
    by_entry (Two tag first second) fits = sym (two_not 3 tag (omega arith) fits.0)
    by_entry (Handle kind index) fits = refl

and_both : (b c : Bool) → (b && c) ≡ true → (b ≡ true) × (c ≡ true)
and_both true c is = (refl, is)
and_both false c is = absurd cc

-- the text that a Class or a String names is there
pub named_where : (k : ℕ) → (3 == k) ≡ false → (4 == k) ≡ false → (5 == k) ≡ false → (6 == k) ≡ false → (1 == k) ≡ false → (15 == k) ≡ false → (k == 16) ≡ false → k < 9 → (slots : List (Option Placed)) → IsSound slots → (i : ℕ)
    → is_some (option_and_then (text_named k slots) (entry_of slots i)) ≡ has_tag slots i k
named_where k w3 w4 w5 w6 t h m low slots sound i =
    got_where (text_named k slots) (λ entry. tag_of entry == k) (placed_at slots i) (λ p is. by_entry p.entry (sound.entry i p is) (sound.linked i p is)) ∙ tag_held k (placed_at slots i)
  where
    by_test : (b : Bool) (found : Option (List ℕ)) → (b ≡ true → is_some found ≡ true) → is_some (cond b found None) ≡ b
    by_test true found there = there refl
    by_test false found there = refl

    text_there : (tag index : ℕ) → (tag == k) ≡ true → is_linked slots (One tag index) ≡ true → is_some (utf8 slots index) ≡ true
    text_there tag index same linked =
        let no_type : (tag == 16) ≡ false = at_tag (λ (u : ℕ). (u == 16) ≡ false) tag k same m in
        let wanted : (has_tag slots index 1 && true) ≡ true = subst (λ (b : Bool). list_all (λ (reference : ℕ × ℕ). has_tag slots reference.0 reference.1) (cond b [] ((index, 1) ∷ [])) ≡ true) no_type linked in
        utf8_where slots sound index ∙ (and_both (has_tag slots index 1) true wanted).0

    by_entry : (entry : Entry) → IsEntry entry → is_linked slots entry ≡ true → is_some (text_named k slots entry) ≡ (tag_of entry == k)
    by_entry (Utf8 text) fits linked = sym t
    by_entry (Word tag number) fits linked = sym (word_not k tag w3 w4 fits.0)
    by_entry (Wide tag bytes) fits linked = sym (wide_not k tag w5 w6 fits.0)
    by_entry (One tag index) fits linked = by_test (tag == k) (utf8 slots index) (λ same. text_there tag index same linked)
    by_entry (Two tag first second) fits linked = sym (two_not k tag low fits.0)
    by_entry (Handle kind index) fits linked = sym h

pub class_where : (slots : List (Option Placed)) → IsSound slots → (i : ℕ) → is_some (class_name slots i) ≡ has_tag slots i 7
class_where slots sound i = named_where 7 refl refl refl refl refl refl refl (omega arith) slots sound i

pub string_where : (slots : List (Option Placed)) → IsSound slots → (i : ℕ) → is_some (string_text slots i) ≡ has_tag slots i 8
string_where slots sound i = named_where 8 refl refl refl refl refl refl refl (omega arith) slots sound i

-- FIELDS AND METHODS

-- a NameAndType, and the two texts that it names
record IsNamed (slots : List (Option Placed)) (i : ℕ) : Type 0 where
  pub name : ℕ
  pub desc : ℕ
  pub entry : entry_of slots i ≡ Some (Two 12 name desc)
  pub has_name : has_tag slots name 1 ≡ true
  pub has_desc : has_tag slots desc 1 ≡ true

named_at : (slots : List (Option Placed)) → IsSound slots → (i : ℕ) → has_tag slots i 12 ≡ true → IsNamed slots i
named_at slots sound i has = by_slot (placed_at slots i) refl has
  where
    both : (tag first second : ℕ) → (tag == 12) ≡ true → is_linked slots (Two tag first second) ≡ true → (has_tag slots first 1 && (has_tag slots second 1 && true)) ≡ true
    both tag first second same linked =
        subst (λ (b : Bool). list_all (λ (reference : ℕ × ℕ). has_tag slots reference.0 reference.1) (cond b ((first, 1) ∷ (second, 1) ∷ []) (cond (tag == 18) [] ((first, 7) ∷ (second, 12) ∷ []))) ≡ true) same linked

    by_entry : (p : Placed) (entry : Entry) → p.entry ≡ entry → placed_at slots i ≡ Some p → IsEntry entry → is_linked slots entry ≡ true → (tag_of entry == 12) ≡ true → IsNamed slots i
    by_entry p (Utf8 text) same is fits linked tagged = absurd cc
    by_entry p (Word tag number) same is fits linked tagged = absurd (let e = sym (word_not 12 tag refl refl fits.0) ∙ tagged in cc)
    by_entry p (Wide tag bytes) same is fits linked tagged = absurd (let e = sym (wide_not 12 tag refl refl fits.0) ∙ tagged in cc)
    by_entry p (One tag index) same is fits linked tagged = absurd (let e = sym (one_not 12 tag refl refl refl fits.0) ∙ tagged in cc)
    by_entry p (Two tag first second) same is fits linked tagged =
        let names = both tag first second tagged linked in
        let one = and_both (has_tag slots first 1) (has_tag slots second 1 && true) names in
        record {
          name = first;
          desc = second;
          entry = ap (option_map (λ (q : Placed). q.entry)) is ∙ ap (λ (e : Entry). Some e) (same ∙ ap (λ (t : ℕ). Two t first second) (eqb-true tag 12 tagged));
          has_name = one.0;
          has_desc = (and_both (has_tag slots second 1) true one.1).0;
        }
    by_entry p (Handle kind index) same is fits linked tagged = absurd cc

    by_slot : (slot : Option Placed) → placed_at slots i ≡ slot → has_tag_of 12 slot ≡ true → IsNamed slots i
    by_slot None is tagged = absurd cc
    by_slot (Some p) is tagged = by_entry p p.entry refl is (sound.entry i p is) (sound.linked i p is) tagged

there : {X Y : Type 0} (found : Option X) (next : X → Option Y) → is_some found ≡ true → ((x : X) → is_some (next x) ≡ true) → is_some (option_and_then next found) ≡ true
there None next is all = absurd cc
there (Some x) next is all = all x

member_tag_not : (tag : ℕ) → is_member_tag tag ≡ true → ((tag == 12) ≡ false) × ((tag == 18) ≡ false)
member_tag_not tag is = elim (or_cases (tag == 9) _ is) [
  | inl e ↦ at_tag (λ (t : ℕ). ((t == 12) ≡ false) × ((t == 18) ≡ false)) tag 9 e (refl, refl)
  | inr more ↦ elim (or_cases (tag == 10) (tag == 11) more) [
    | inl e ↦ at_tag (λ (t : ℕ). ((t == 12) ≡ false) × ((t == 18) ≡ false)) tag 10 e (refl, refl)
    | inr e ↦ at_tag (λ (t : ℕ). ((t == 12) ≡ false) × ((t == 18) ≡ false)) tag 11 e (refl, refl)
  ]
]

referred_there : (slots : List (Option Placed)) → IsSound slots → (tag first second : ℕ) → has_tag slots first 7 ≡ true → has_tag slots second 12 ≡ true → is_some (referred slots (tag, first, second)) ≡ true
referred_there slots sound tag first second has_class has_type =
    let named = named_at slots sound second has_type in
    there (class_name slots first) _ (class_where slots sound first ∙ has_class) (λ class. rw named.entry (
    there (utf8 slots named.name) _ (utf8_where slots sound named.name ∙ named.has_name) (λ name.
    there (utf8 slots named.desc) _ (utf8_where slots sound named.desc ∙ named.has_desc) (λ desc. refl))))

pub member_where : (slots : List (Option Placed)) → IsSound slots → (i : ℕ) → is_some (member slots i) ≡ is_member slots i
member_where slots sound i =
    got_where (λ entry. option_and_then (referred slots) (member_held entry)) (λ entry. is_member_tag (tag_of entry)) (placed_at slots i) (λ p is. by_entry p.entry (sound.entry i p is) (sound.linked i p is)) ∙ by_tags (placed_at slots i)
  where
    by_tags : (slot : Option Placed) → holds_of (λ entry. is_member_tag (tag_of entry)) slot ≡ (has_tag_of 9 slot || (has_tag_of 10 slot || has_tag_of 11 slot))
    by_tags None = refl
    by_tags (Some p) = refl

    by_test : (b : Bool) (held : ℕ × ℕ × ℕ) → (b ≡ true → is_some (referred slots held) ≡ true) → is_some (option_and_then (referred slots) (cond b (Some held) None)) ≡ b
    by_test true held found = found refl
    by_test false held found = refl

    both : (tag first second : ℕ) → is_member_tag tag ≡ true → is_linked slots (Two tag first second) ≡ true → (has_tag slots first 7 && (has_tag slots second 12 && true)) ≡ true
    both tag first second same linked =
        let others = member_tag_not tag same in
        let no_type : list_all (λ (reference : ℕ × ℕ). has_tag slots reference.0 reference.1) (cond (tag == 18) [] ((first, 7) ∷ (second, 12) ∷ [])) ≡ true =
        subst (λ (b : Bool). list_all (λ (reference : ℕ × ℕ). has_tag slots reference.0 reference.1) (cond b ((first, 1) ∷ (second, 1) ∷ []) (cond (tag == 18) [] ((first, 7) ∷ (second, 12) ∷ []))) ≡ true) others.0 linked in
        subst (λ (b : Bool). list_all (λ (reference : ℕ × ℕ). has_tag slots reference.0 reference.1) (cond b [] ((first, 7) ∷ (second, 12) ∷ [])) ≡ true) others.1 no_type

    none_of : (tag : ℕ) → (tag == 9) ≡ false → (tag == 10) ≡ false → (tag == 11) ≡ false → false ≡ is_member_tag tag
    none_of tag a b d = rw (a, b, d) refl

    by_entry : (entry : Entry) → IsEntry entry → is_linked slots entry ≡ true → is_some (option_and_then (referred slots) (member_held entry)) ≡ is_member_tag (tag_of entry)
    by_entry (Utf8 text) fits linked = refl
    by_entry (Word tag number) fits linked = none_of tag (word_not 9 tag refl refl fits.0) (word_not 10 tag refl refl fits.0) (word_not 11 tag refl refl fits.0)
    by_entry (Wide tag bytes) fits linked = none_of tag (wide_not 9 tag refl refl fits.0) (wide_not 10 tag refl refl fits.0) (wide_not 11 tag refl refl fits.0)
    by_entry (One tag index) fits linked = none_of tag (one_not 9 tag refl refl refl fits.0) (one_not 10 tag refl refl refl fits.0) (one_not 11 tag refl refl refl fits.0)
    by_entry (Two tag first second) fits linked = by_test (is_member_tag tag) (tag, first, second) (λ same.
        let names = and_both (has_tag slots first 7) (has_tag slots second 12 && true) (both tag first second same linked) in
        referred_there slots sound tag first second names.0 (and_both (has_tag slots second 12) true names.1).0)
    by_entry (Handle kind index) fits linked = refl

-- WHAT A POOL'S GETTERS RETURN

pub of_pool : (slots : List (Option Placed)) → (place : Place) × (after : Place) × IsPoolOf place slots after → IsSound slots
of_pool slots pool = subst IsSound (sym pool.2.slots_are) (pool_is_sound pool.0 pool.1 pool.2.entries pool.2.is)

-- what was returned is there where what it stands for is
pub returned : {X Y : Type 0} (seen : X → Y) (result : Option X) (value : Option Y) (has : Bool) → option_map seen result ≡ value → is_some value ≡ has → is_some result ≡ has
returned seen None value has is there = ap is_some is ∙ there
returned seen (Some x) value has is there = ap is_some is ∙ there

pub option_same : {X : Type 0} (found : Option X) → option_map (λ (x : X). x) found ≡ found
option_same None = refl
option_same (Some x) = refl
