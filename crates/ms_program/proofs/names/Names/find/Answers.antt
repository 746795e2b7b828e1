use Rattle.std.proofs.Common.{List, ap, ◌∙◌}
use Rattle.ms_program.specs.Names.{Key, place_named}
use Rattle.ms_program.proofs.Members.{place_of_key}
use Rattle.ms_program.proofs.names.Names.find.Goals as goal

pub returns : goal.returns
returns c = c.get_index_of.ensures.index ∙ place_of_key c.args.name.now c.args.desc.now c.self.inside.keys.keys ∙ ap (λ (keys : List Key). place_named c.args.name.now c.args.desc.now keys) c.self.view_is
