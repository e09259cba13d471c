-- Left and right exchanged.
-- opposite_position, opposite_drive, opposite_end   each by itself
use Rattle.legs.specs.declared.position.Position.{Position}
use Rattle.legs.specs.declared.position.Position.TheVariants as position
use Rattle.legs.specs.declared.drive.Drive.{Drive}
use Rattle.legs.specs.declared.drive.Drive.TheVariants as drive
use Rattle.legs.specs.declared.end.End.{End}
use Rattle.legs.specs.declared.end.End.TheVariants as end

abbrev pub opposite_position : Position → Position
opposite_position position.Left = position.Right
opposite_position position.Right = position.Left
opposite_position position.NoEndPosition = position.NoEndPosition
opposite_position position.Trailed = position.Trailed

abbrev pub opposite_drive : Drive → Drive
opposite_drive drive.Left = drive.Right
opposite_drive drive.Right = drive.Left
opposite_drive drive.Off = drive.Off

abbrev pub opposite_end : End → End
opposite_end end.Left = end.Right
opposite_end end.Right = end.Left
