-- What the machine sees of what the interpreter keeps: each int by a map of ints, and each text, which is kept as the item of the
-- instruction that put it on the stack, by the bytes that are there.
use Rattle.std.specs.Prelude.{ℕ, List, [], map, Option, option_map}
use Rattle.ms_words.specs.declared.item.Item.{Item}
use Rattle.ms_machine.specs.Instructions.{Instr, PushText}
use Rattle.ms_machine.specs.Values as machine
use Rattle.ms_machine.specs.Values.{Value}
use Rattle.ms_machine.specs.Effects.{Here}
use Rattle.ms_machine.specs.Control as control
use Rattle.ms_machine.specs.Control.{View, Views, viewed}
use Rattle.ms_interpreter.specs.declared.slot.Slot.{Slot}
use Rattle.ms_interpreter.specs.declared.slot.Slot.TheVariants as slots
use Rattle.ms_interpreter.specs.Frames.{Field, Frame, Shared}

-- TEXTS

-- the bytes of a text at each item
abbrev pub Texts : Type 0
Texts = Item → List ℕ

-- the text that an instruction puts on the stack
abbrev pub text_in : Instr → List ℕ
text_in (PushText bytes) = bytes
text_in other = []

-- the texts of a program
abbrev pub texts_of : Views → Texts
texts_of P item = viewed (P item) [] (λ view. text_in view.instr)

-- VALUES

module _ {I V : Type 0} (f : I → V) (texts : Texts) where
  -- what a slot holds
  abbrev pub value_of : Slot I → Value V
  value_of (slots.Int a) = machine.Int (f a)
  value_of slots.Null = machine.Null
  value_of (slots.Array number) = machine.Array number
  value_of (slots.Text item) = machine.Text (texts item)
  value_of (slots.Throwable number class) = machine.Throwable number class

  -- of slots
  abbrev pub values_of : List (Slot I) → List (Value V)
  values_of slots = map value_of slots

  -- of locals
  abbrev pub locals_of : List (Option (Slot I)) → List (Option (Value V))
  locals_of locals = map (option_map value_of) locals

  -- of a static field
  abbrev pub static_of : Field I → machine.Static V
  static_of field = record { class = field.class; name = field.name; descriptor = field.descriptor; value = value_of field.slot }

  -- MEMORY AND FRAMES

  -- the memory that frames share
  abbrev pub memory_of : Shared I → machine.Memory V
  memory_of shared = record {
    statics = map static_of shared.statics;
    started = shared.started;
    arrays = map (map f) shared.arrays;
    throwables = shared.throwables;
  }

  -- what a frame has before it
  abbrev pub here_of : Frame I → Shared I → Here V
  here_of frame shared = record { locals = locals_of frame.locals; stack = values_of frame.stack; memory = memory_of shared }

  -- a frame
  abbrev pub frame_of : Frame I → control.Frame V
  frame_of frame = record { at = frame.at; locals = locals_of frame.locals; stack = values_of frame.stack; initialises = frame.initialises }
