-- The text of replies.
use Rattle.std.specs.Prelude.{ℕ, List, [], ◌∷◌, ◌++◌, codes}
use Rattle.std.specs.Fmt.{decimal}
use Rattle.ms_command.specs.Names.{printed_name}
use Rattle.ms_command.specs.declared.reply.Reply.{Reply}
use Rattle.ms_command.specs.declared.reply.Reply.TheVariants.{Ran, ClassAdded, EntrySet, DepthSet, Explored, Reported, Unfinished, Quitting, NoLine, NoCommand, Absent, TooLong, ClassFault, VerifyFault, Known, Unknown, NoEntry, EntryMissing, Range, Words, NotBuilt}

-- a line feed
abbrev pub line_end : List ℕ
line_end = 10 ∷ []

-- the text of a reply, which is one line
abbrev pub reply_text : Reply → List ℕ
reply_text (Ran end) = codes "ok " ++ end ++ line_end
reply_text (ClassAdded class verdicts segments) =
    codes "ok class " ++ printed_name class ++ codes " verdicts " ++ decimal verdicts ++ codes " segments " ++ decimal segments ++ line_end
reply_text (EntrySet entry) = codes "ok entry " ++ printed_name entry ++ line_end
reply_text (DepthSet depth) = codes "ok depth " ++ decimal depth ++ line_end
reply_text (Explored settled asks how) = codes "ok explored " ++ decimal settled ++ codes " asks " ++ decimal asks ++ codes " " ++ how ++ line_end
reply_text (Reported paths undecided) = codes "ok report paths " ++ decimal paths ++ codes " undecided " ++ decimal undecided ++ line_end
reply_text Unfinished = codes "ok unfinished" ++ line_end
reply_text Quitting = codes "ok quit" ++ line_end
reply_text NoLine = codes "refused 1 Line" ++ line_end
reply_text NoCommand = codes "refused 2 Command" ++ line_end
reply_text (Absent file) = codes "refused 3 Absent " ++ printed_name file ++ line_end
reply_text (TooLong file) = codes "refused 4 TooLong " ++ printed_name file ++ line_end
reply_text (ClassFault kind at) = codes "refused 5 Class " ++ kind ++ codes " " ++ decimal at ++ line_end
reply_text (VerifyFault kind method offset) = codes "refused 6 Verify " ++ kind ++ codes " " ++ printed_name method ++ codes " " ++ decimal offset ++ line_end
reply_text (Known class) = codes "refused 7 Known " ++ printed_name class ++ line_end
reply_text (Unknown class) = codes "refused 8 Unknown " ++ printed_name class ++ line_end
reply_text NoEntry = codes "refused 10 NoEntry" ++ line_end
reply_text EntryMissing = codes "refused 11 EntryMissing" ++ line_end
reply_text Range = codes "refused 13 Range" ++ line_end
reply_text Words = codes "refused 16 Words" ++ line_end
reply_text NotBuilt = codes "refused 90 NotBuilt" ++ line_end
