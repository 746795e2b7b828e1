-- The reply to a file with a fault.
use Rattle.std.specs.Prelude.{ℕ, List, codes}
use Rattle.ms_pool.specs.declared.code.ClassKind.{ClassKind}
use Rattle.ms_pool.specs.declared.code.ClassKind.TheVariants as kinds
use Rattle.ms_program.specs.declared.file.FileFault.{FileFault}
use Rattle.ms_command.specs.declared.reply.Reply.{Reply}
use Rattle.ms_command.specs.declared.reply.Reply.TheVariants as replies

-- the name of a kind of fault
abbrev pub kind_name : ClassKind → List ℕ
kind_name kinds.Short = codes "Short"
kind_name kinds.Magic = codes "Magic"
kind_name kinds.Version = codes "Version"
kind_name kinds.Pool = codes "Pool"
kind_name kinds.Index = codes "Index"
kind_name kinds.Shape = codes "Shape"
kind_name kinds.Super = codes "Super"
kind_name kinds.Duplicate = codes "Duplicate"
kind_name kinds.Trailing = codes "Trailing"
kind_name kinds.Cut = codes "Cut"
kind_name kinds.Target = codes "Target"
kind_name kinds.Switch = codes "Switch"

-- the reply to a file that has this first fault
abbrev pub fault_reply : FileFault → Reply
fault_reply fault = replies.ClassFault (kind_name fault.kind) fault.at
