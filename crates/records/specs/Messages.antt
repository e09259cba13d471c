-- The number and the text of every message.
-- message_row       both, for each message
-- message_code      the number
-- message_text      what stands for it in every output
-- position_message  the message that tells a position
-- position_in       the position that a message tells, if it tells one
use Rattle.std.specs.Prelude.{ℕ, List, Some, None, codes, Option}
use Rattle.legs.specs.declared.position.Position.{Position}
use Rattle.legs.specs.declared.position.Position.TheVariants.{Left, Right, NoEndPosition, Trailed}
use Rattle.records.specs.declared.message.Message.{Message}
use Rattle.records.specs.declared.message.Message.TheVariants.{Nothing, VersionMatches, VersionDiffers, StartInitialisation, InitialisationCompleted, PositionLeft, PositionRight, PositionNoEnd, PositionTrailed, Timeout}

abbrev pub message_row : Message → ℕ × List ℕ
message_row Nothing = (0, codes "-")
message_row VersionMatches = (1, codes "V1")
message_row VersionDiffers = (2, codes "V0")
message_row StartInitialisation = (3, codes "SI")
message_row InitialisationCompleted = (4, codes "IC")
message_row PositionLeft = (5, codes "PL")
message_row PositionRight = (6, codes "PR")
message_row PositionNoEnd = (7, codes "PN")
message_row PositionTrailed = (8, codes "PT")
message_row Timeout = (9, codes "TO")

abbrev pub message_code : Message → ℕ
message_code m = (message_row m).0

abbrev pub message_text : Message → List ℕ
message_text m = (message_row m).1

abbrev pub position_message : Position → Message
position_message Left = PositionLeft
position_message Right = PositionRight
position_message NoEndPosition = PositionNoEnd
position_message Trailed = PositionTrailed

abbrev pub position_in : Message → Option Position
position_in Nothing = None
position_in VersionMatches = None
position_in VersionDiffers = None
position_in StartInitialisation = None
position_in InitialisationCompleted = None
position_in PositionLeft = Some Left
position_in PositionRight = Some Right
position_in PositionNoEnd = Some NoEndPosition
position_in PositionTrailed = Some Trailed
position_in Timeout = None
