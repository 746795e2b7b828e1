use Rattle.std.proofs.Common.{◌≡◌, ℕ, Bool, List, [], ◌∷◌, ◌++◌, None, Ok, Err, not, map, subst, sym, ap, ◌∙◌}
use Rattle.std.proofs.lemmas.Result.{err_from_is_err_and}
use Rattle.std.proofs.lemmas.List.{map_push}
use Rattle.ms_classfile.specs.ClassFile.{Field, counted, field_attribute, field_key, short}
use Rattle.ms_classfile.specs.ClassViews.{field_view}
use Rattle.ms_classfile.specs.Seen.{AreKeysOf, field_of, head_view}
use Rattle.ms_classfile.proofs.Keys.{is_there_by, keys_after}
use Rattle.ms_classfile.proofs.Loops.{is_fault}
use Rattle.ms_classfile.proofs.Members.{field_breaks, field_is, field_twice}
use Rattle.ms_classfile.proofs.reading.fields.add.Goals as goal

pub returns-then-not-branch-clause-read : goal.returns-then-not-branch-clause-read
returns-then-not-branch-clause-read c =
    let h = head_view c.in_ok-head.head in
    let pairs = map field_key (map field_view c.args.rows.now.items) in
    let known = is_there_by c.args.pool.now c.args.texts.now c.in_ok-head.head.name.index c.in_ok-head.head.desc.index h.name h.desc c.args.keys.now pairs c.key.result c.in_ok-add.field-0 c.requires.texts c.requires.keys c.in_ok-head.ensures.name c.in_ok-head.ensures.desc c.key.ensures c.in_ok-add.ensures.new in
    rw c.duplicate.ensures (field_twice c.args.pool.now (map field_view c.args.rows.now.items) c.args.cursor.now c.member_head.new.cursor h c.in_ok-head.ensures.read (known ∙ ap not c.if-not-branch.true))

pub returns-in_err-initial-clause-read : goal.returns-in_err-initial-clause-read
returns-in_err-initial-clause-read c =
    let h = head_view c.in_ok-head.head in
    let known = is_there_by c.args.pool.now c.args.texts.now c.in_ok-head.head.name.index c.in_ok-head.head.desc.index h.name h.desc c.args.keys.now (map field_key (map field_view c.args.rows.now.items)) c.key.result c.in_ok-add.field-0 c.requires.texts c.requires.keys c.in_ok-head.ensures.name c.in_ok-head.ensures.desc c.key.ensures c.in_ok-add.ensures.new in
    let p = err_from_is_err_and c.from_residual-in_err-initial.result c.from_residual-in_err-initial.ensures.1 in
    rw (p.1, p.2) (is_fault c.in_err-initial.field-0.0 _ (field_breaks c.args.pool.now (map field_view c.args.rows.now.items) c.args.cursor.now c.member_head.new.cursor h c.in_err-initial.field-0.0 c.in_ok-head.ensures.read (known ∙ ap not c.if-not-branch.false) (subst (λ (b : Bool). (counted short (field_attribute c.args.pool.now b) None).read c.member_head.new.cursor ≡ Err c.in_err-initial.field-0.0) c.takes_int.ensures c.in_err-initial.ensures)))

pub returns-clause-read : goal.returns-clause-read
returns-clause-read c =
    let h = head_view c.in_ok-head.head in
    let known = is_there_by c.args.pool.now c.args.texts.now c.in_ok-head.head.name.index c.in_ok-head.head.desc.index h.name h.desc c.args.keys.now (map field_key (map field_view c.args.rows.now.items)) c.key.result c.in_ok-add.field-0 c.requires.texts c.requires.keys c.in_ok-head.ensures.name c.in_ok-head.ensures.desc c.key.ensures c.in_ok-add.ensures.new in
    let pushed : map field_view c.push.new.self.items ≡ map field_view c.args.rows.now.items ++ field_of h c.in_ok-initial.initial ∷ [] =
    rw c.in_ok-push.ensures.items (map_push field_view c.args.rows.now.items c.row_of.result ∙ ap (λ (f : Field). map field_view c.args.rows.now.items ++ f ∷ []) c.row_of.ensures) in
    field_is c.args.pool.now (map field_view c.args.rows.now.items) c.args.cursor.now c.member_head.new.cursor c.attributes.new.cursor h c.in_ok-initial.initial c.in_ok-head.ensures.read (known ∙ ap not c.if-not-branch.false) (subst (λ (b : Bool). (counted short (field_attribute c.args.pool.now b) None).read c.member_head.new.cursor ≡ Ok (c.in_ok-initial.initial, c.attributes.new.cursor)) c.takes_int.ensures c.in_ok-initial.ensures)
    ∙ ap (λ (rows : List Field). Ok (rows, c.attributes.new.cursor)) (sym pushed)

pub returns-clause-keys : goal.returns-clause-keys
returns-clause-keys c =
    let h = head_view c.in_ok-head.head in
    let rows = map field_view c.args.rows.now.items in
    let pushed : map field_view c.push.new.self.items ≡ rows ++ field_of h c.in_ok-initial.initial ∷ [] =
    rw c.in_ok-push.ensures.items (map_push field_view c.args.rows.now.items c.row_of.result ∙ ap (λ (f : Field). map field_view c.args.rows.now.items ++ f ∷ []) c.row_of.ensures) in
    let paired : map field_key (map field_view c.push.new.self.items) ≡ map field_key rows ++ (h.name, h.desc) ∷ [] = ap (map field_key) pushed ∙ map_push field_key rows (field_of h c.in_ok-initial.initial) in
    subst (λ (pairs : List (List ℕ × List ℕ)). AreKeysOf c.args.pool.now c.args.texts.now c.add.new.self pairs) (sym paired)
    (keys_after c.args.pool.now c.args.texts.now c.in_ok-head.head.name.index c.in_ok-head.head.desc.index h.name h.desc c.args.keys.now c.add.new.self (map field_key rows) c.key.result c.requires.keys c.in_ok-head.ensures.name c.in_ok-head.ensures.desc c.key.ensures (sym c.if-not-branch.false ∙ c.in_ok-add.ensures.new) c.in_ok-add.ensures.added)
