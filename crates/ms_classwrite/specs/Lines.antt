-- For private functions: lines whose texts are lent.
use Rattle.ms_classwrite.specs.declared.lines.Line as lent
use Rattle.ms_classwrite.specs.declared.lines.Line.TheVariants as lents
use Rattle.ms_classwrite.specs.declared.plan.PoolLine.{PoolLine}
use Rattle.ms_classwrite.specs.declared.plan.PoolLine.TheVariants.{Utf8, Integer, Class, Text, NameAndType, Field, Method}

-- a line, without where its text lies in memory
abbrev pub line_view : lent.Line → PoolLine
line_view (lents.Utf8 text) = Utf8 text.now
line_view (lents.Integer int) = Integer int
line_view (lents.Class name) = Class name
line_view (lents.Text utf8) = Text utf8
line_view (lents.NameAndType name desc) = NameAndType name desc
line_view (lents.Field class member) = Field class member
line_view (lents.Method class member) = Method class member
