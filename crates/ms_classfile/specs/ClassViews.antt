-- A class that was read, without where its bytes lie in memory.
use Rattle.std.specs.Prelude.{map, option_map}
use Rattle.ms_pool.specs.declared.code.CodeRow.{CodeRow}
use Rattle.ms_classfile.specs.declared.class.Class as declared_class
use Rattle.ms_classfile.specs.declared.class.FieldRow.{FieldRow}
use Rattle.ms_classfile.specs.declared.class.MethodRow.{MethodRow}
use Rattle.ms_classfile.specs.ClassFile.{Class, Code, Field, Method}

-- a field
abbrev pub field_view : FieldRow → Field
field_view row = record { access = row.access; name = row.name.now; name_index = row.name_index; desc = row.desc.now; desc_index = row.desc_index; initial = row.initial }

-- a Code attribute
abbrev pub code_view : CodeRow → Code
code_view row = record { max_stack = row.max_stack; max_locals = row.max_locals; code = row.code.now; code_at = row.code_at; table = row.table; table_at = row.table_at }

-- a method
abbrev pub method_view : MethodRow → Method
method_view row = record { access = row.access; name = row.name.now; name_index = row.name_index; desc = row.desc.now; desc_index = row.desc_index; code = option_map code_view row.code; at = row.at }

-- a class
abbrev pub class_view : declared_class.Class → Class
class_view class = record { major = class.major; pool = class.pool; name = class.name.now; this_index = class.this_index; fields = map field_view class.fields; methods = map method_view class.methods }
