use Rattle.std.proofs.Common.{refl, ap}
use Rattle.ms_linking.specs.Linked.{views_of}
use Rattle.ms_linking.specs.Told.{told}
use Rattle.ms_interpreter.specs.Seen.{texts_of}
use Rattle.ms_interpreter.proofs.Dispatched.{anyhow, anyhow_ok, so_ok, text_ok}
use Rattle.ms_interpreter.proofs.acting.act.Goals as goal

pub returns-in-Push-clause-acts : goal.returns-in-Push-clause-acts
returns-in-Push-clause-acts g c = anyhow (texts_of (views_of c.args.program.now)) c.args.arm c.args.frame.now c.args.frame.now c.args.memory.now c.args.memory.now (ap told c.in-Push.is) c.push_word.result c.push_word.ensures

pub returns-in-Change-clause-acts : goal.returns-in-Change-clause-acts
returns-in-Change-clause-acts g c = anyhow (texts_of (views_of c.args.program.now)) c.args.arm c.args.frame.now c.change.new.frame c.args.memory.now c.args.memory.now (ap told c.in-Change.is) c.change.result c.change.ensures.acts

pub returns-in-Combine-clause-acts : goal.returns-in-Combine-clause-acts
returns-in-Combine-clause-acts g c = anyhow (texts_of (views_of c.args.program.now)) c.args.arm c.args.frame.now c.combine.new.frame c.args.memory.now c.args.memory.now (ap told c.in-Combine.is) c.combine.result c.combine.ensures.acts

pub returns-in-Increment-clause-acts : goal.returns-in-Increment-clause-acts
returns-in-Increment-clause-acts g c = anyhow (texts_of (views_of c.args.program.now)) c.args.arm c.args.frame.now c.args.frame.now c.args.memory.now c.args.memory.now (ap told c.in-Increment.is) c.increment.result c.increment.ensures

pub returns-in-CompareNull-clause-acts : goal.returns-in-CompareNull-clause-acts
returns-in-CompareNull-clause-acts g c = anyhow (texts_of (views_of c.args.program.now)) c.args.arm c.args.frame.now c.compare_null.new.frame c.args.memory.now c.args.memory.now (ap told c.in-CompareNull.is) c.compare_null.result c.compare_null.ensures.acts

pub returns-in-ReturnValue-clause-acts : goal.returns-in-ReturnValue-clause-acts
returns-in-ReturnValue-clause-acts g c = anyhow (texts_of (views_of c.args.program.now)) c.args.arm c.args.frame.now c.return_value.new.frame c.args.memory.now c.args.memory.now (ap told c.in-ReturnValue.is) c.return_value.result c.return_value.ensures.acts

pub returns-in-Construct-clause-acts : goal.returns-in-Construct-clause-acts
returns-in-Construct-clause-acts g c = anyhow (texts_of (views_of c.args.program.now)) c.args.arm c.args.frame.now c.construct.new.frame c.args.memory.now c.args.memory.now (ap told c.in-Construct.is) c.construct.result c.construct.ensures.acts

pub returns-in-Throw-clause-acts : goal.returns-in-Throw-clause-acts
returns-in-Throw-clause-acts g c = anyhow (texts_of (views_of c.args.program.now)) c.args.arm c.args.frame.now c.throw.new.frame c.args.memory.now c.throw.new.memory (ap told c.in-Throw.is) c.throw.result c.throw.ensures.acts

pub returns-in-NewArray-clause-acts : goal.returns-in-NewArray-clause-acts
returns-in-NewArray-clause-acts g c = anyhow (texts_of (views_of c.args.program.now)) c.args.arm c.args.frame.now c.new_array.new.frame c.args.memory.now c.args.memory.now (ap told c.in-NewArray.is) c.new_array.result c.new_array.ensures.acts

pub returns-in-ArrayLength-clause-acts : goal.returns-in-ArrayLength-clause-acts
returns-in-ArrayLength-clause-acts g c = anyhow (texts_of (views_of c.args.program.now)) c.args.arm c.args.frame.now c.array_length.new.frame c.args.memory.now c.array_length.new.memory (ap told c.in-ArrayLength.is) c.array_length.result c.array_length.ensures.acts

pub returns-in-PushNull-clause-acts : goal.returns-in-PushNull-clause-acts
returns-in-PushNull-clause-acts g c = anyhow_ok (texts_of (views_of c.args.program.now)) c.args.arm c.args.frame.now c.push_null.new.frame c.args.memory.now c.args.memory.now (ap told c.in-PushNull.is) c.push_null.result c.push_null.ensures.acts

pub returns-in-Load-clause-acts : goal.returns-in-Load-clause-acts
returns-in-Load-clause-acts g c = anyhow_ok (texts_of (views_of c.args.program.now)) c.args.arm c.args.frame.now c.load.new.frame c.args.memory.now c.args.memory.now (ap told c.in-Load.is) c.load.result c.load.ensures.acts

pub returns-in-Store-clause-acts : goal.returns-in-Store-clause-acts
returns-in-Store-clause-acts g c = anyhow_ok (texts_of (views_of c.args.program.now)) c.args.arm c.args.frame.now c.store.new.frame c.args.memory.now c.args.memory.now (ap told c.in-Store.is) c.store.result c.store.ensures.acts

pub returns-in-Shuffle-clause-acts : goal.returns-in-Shuffle-clause-acts
returns-in-Shuffle-clause-acts g c = anyhow_ok (texts_of (views_of c.args.program.now)) c.args.arm c.args.frame.now c.shuffle.new.frame c.args.memory.now c.args.memory.now (ap told c.in-Shuffle.is) c.shuffle.result c.shuffle.ensures.acts

pub returns-in-GetStatic-clause-acts : goal.returns-in-GetStatic-clause-acts
returns-in-GetStatic-clause-acts g c = anyhow_ok (texts_of (views_of c.args.program.now)) c.args.arm c.args.frame.now c.get_static.new.frame c.args.memory.now c.get_static.new.memory (ap told c.in-GetStatic.is) c.get_static.result c.get_static.ensures.acts

pub returns-in-PutStatic-clause-acts : goal.returns-in-PutStatic-clause-acts
returns-in-PutStatic-clause-acts g c = anyhow_ok (texts_of (views_of c.args.program.now)) c.args.arm c.args.frame.now c.put_static.new.frame c.args.memory.now c.put_static.new.memory (ap told c.in-PutStatic.is) c.put_static.result c.put_static.ensures.acts

pub returns-in-Invoke-clause-acts : goal.returns-in-Invoke-clause-acts
returns-in-Invoke-clause-acts g c = anyhow_ok (texts_of (views_of c.args.program.now)) c.args.arm c.args.frame.now c.args.frame.now c.args.memory.now c.invoke.new.memory (ap told c.in-Invoke.is) c.invoke.result c.invoke.ensures

pub returns-in-New-clause-acts : goal.returns-in-New-clause-acts
returns-in-New-clause-acts g c = anyhow_ok (texts_of (views_of c.args.program.now)) c.args.arm c.args.frame.now c.new.new.frame c.args.memory.now c.new.new.memory (ap told c.in-New.is) c.new.result c.new.ensures.acts

pub returns-in-CompareReferences-clause-acts : goal.returns-in-CompareReferences-clause-acts
returns-in-CompareReferences-clause-acts g c = so_ok (texts_of (views_of c.args.program.now)) c.args.arm c.args.frame.now c.compare_references.new.frame c.args.memory.now c.args.memory.now (ap told c.in-CompareReferences.is) c.compare_references.result c.compare_references.ensures.acts

pub returns-in-PushText-clause-acts : goal.returns-in-PushText-clause-acts
returns-in-PushText-clause-acts g c = text_ok (texts_of (views_of c.args.program.now)) c.args.arm c.args.frame.now c.push_text.new.frame c.args.memory.now c.args.memory.now (ap told c.in-PushText.is) c.in-PushText.field-0.now refl c.requires c.push_text.result c.push_text.ensures.acts
