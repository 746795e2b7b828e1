use Rattle.std.proofs.Common.{◌≡◌, ℕ, List, [], ◌∷◌, ◌++◌, Ok, not, map, option_map, subst, sym, ap, ◌∙◌}
use Rattle.std.proofs.lemmas.Result.{err_from_is_err_and}
use Rattle.std.proofs.lemmas.List.{map_push}
use Rattle.ms_classfile.specs.ClassFile.{Method, method_key}
use Rattle.ms_classfile.specs.ClassViews.{code_view, method_view}
use Rattle.ms_classfile.specs.Seen.{AreKeysOf, method_of, head_view}
use Rattle.ms_classfile.proofs.Keys.{is_there_by, keys_after}
use Rattle.ms_classfile.proofs.Members.{method_breaks, method_is, method_twice}
use Rattle.ms_classfile.proofs.reading.methods.add.Goals as goal

pub returns-then-not-branch-clause-read : goal.returns-then-not-branch-clause-read
returns-then-not-branch-clause-read c =
    let h = head_view c.in_ok-head.head in
    let pairs = map method_key (map method_view c.args.rows.now.items) in
    let known = is_there_by c.args.pool.now c.args.texts.now c.in_ok-head.head.name.index c.in_ok-head.head.desc.index h.name h.desc c.args.keys.now pairs c.key.result c.in_ok-add.field-0 c.requires.texts c.requires.keys c.in_ok-head.ensures.name c.in_ok-head.ensures.desc c.key.ensures c.in_ok-add.ensures.new in
    rw c.duplicate.ensures (method_twice c.args.pool.now (map method_view c.args.rows.now.items) c.args.cursor.now c.member_head.new.cursor h c.in_ok-head.ensures.read (known ∙ ap not c.if-not-branch.true))

pub returns-in_err-code-clause-read : goal.returns-in_err-code-clause-read
returns-in_err-code-clause-read c =
    let h = head_view c.in_ok-head.head in
    let known = is_there_by c.args.pool.now c.args.texts.now c.in_ok-head.head.name.index c.in_ok-head.head.desc.index h.name h.desc c.args.keys.now (map method_key (map method_view c.args.rows.now.items)) c.key.result c.in_ok-add.field-0 c.requires.texts c.requires.keys c.in_ok-head.ensures.name c.in_ok-head.ensures.desc c.key.ensures c.in_ok-add.ensures.new in
    let p = err_from_is_err_and c.from_residual-in_err-code.result c.from_residual-in_err-code.ensures.1 in
    rw (p.1, p.2) (method_breaks c.args.pool.now (map method_view c.args.rows.now.items) c.args.cursor.now c.member_head.new.cursor h c.in_err-code.field-0.0 c.in_ok-head.ensures.read (known ∙ ap not c.if-not-branch.false) c.in_err-code.ensures)

pub returns-clause-read : goal.returns-clause-read
returns-clause-read c =
    let h = head_view c.in_ok-head.head in
    let known = is_there_by c.args.pool.now c.args.texts.now c.in_ok-head.head.name.index c.in_ok-head.head.desc.index h.name h.desc c.args.keys.now (map method_key (map method_view c.args.rows.now.items)) c.key.result c.in_ok-add.field-0 c.requires.texts c.requires.keys c.in_ok-head.ensures.name c.in_ok-head.ensures.desc c.key.ensures c.in_ok-add.ensures.new in
    let pushed : map method_view c.push.new.self.items ≡ map method_view c.args.rows.now.items ++ method_of h (option_map code_view c.in_ok-code.code) ∷ [] =
    rw c.in_ok-push.ensures.items (map_push method_view c.args.rows.now.items c.row_of.result ∙ ap (λ (f : Method). map method_view c.args.rows.now.items ++ f ∷ []) c.row_of.ensures) in
    method_is c.args.pool.now (map method_view c.args.rows.now.items) c.args.cursor.now c.member_head.new.cursor c.attributes.new.cursor h (option_map code_view c.in_ok-code.code) c.in_ok-head.ensures.read (known ∙ ap not c.if-not-branch.false) c.in_ok-code.ensures
    ∙ ap (λ (rows : List Method). Ok (rows, c.attributes.new.cursor)) (sym pushed)

pub returns-clause-keys : goal.returns-clause-keys
returns-clause-keys c =
    let h = head_view c.in_ok-head.head in
    let rows = map method_view c.args.rows.now.items in
    let pushed : map method_view c.push.new.self.items ≡ rows ++ method_of h (option_map code_view c.in_ok-code.code) ∷ [] =
    rw c.in_ok-push.ensures.items (map_push method_view c.args.rows.now.items c.row_of.result ∙ ap (λ (f : Method). map method_view c.args.rows.now.items ++ f ∷ []) c.row_of.ensures) in
    let paired : map method_key (map method_view c.push.new.self.items) ≡ map method_key rows ++ (h.name, h.desc) ∷ [] = ap (map method_key) pushed ∙ map_push method_key rows (method_of h (option_map code_view c.in_ok-code.code)) in
    subst (λ (pairs : List (List ℕ × List ℕ)). AreKeysOf c.args.pool.now c.args.texts.now c.add.new.self pairs) (sym paired)
    (keys_after c.args.pool.now c.args.texts.now c.in_ok-head.head.name.index c.in_ok-head.head.desc.index h.name h.desc c.args.keys.now c.add.new.self (map method_key rows) c.key.result c.requires.keys c.in_ok-head.ensures.name c.in_ok-head.ensures.desc c.key.ensures (sym c.if-not-branch.false ∙ c.in_ok-add.ensures.new) c.in_ok-add.ensures.added)
