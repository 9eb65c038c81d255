-- The faults of heads and layouts in words.
use Rattle.std.specs.Prelude.{ℕ, List, codes, Option, Some, None}
use Rattle.ring_format.specs.declared.fault.HeadFault.{HeadFault}
use Rattle.ring_format.specs.declared.fault.HeadFault.TheVariants as heads
use Rattle.ring_format.specs.declared.fault.LayoutFault.{LayoutFault}
use Rattle.ring_format.specs.declared.fault.LayoutFault.TheVariants as layouts

-- ---- layouts

-- the rule that a layout breaks
unfoldable pub layout_words : LayoutFault → List ℕ
layout_words layouts.NoArchive = codes "no archive"
layout_words (layouts.BadStep place) = codes "a step of 0 seconds, or of more than 365 days"
layout_words (layouts.StepOrder place) = codes "a step that is not below that of the next archive"
layout_words (layouts.StepDivides place) = codes "a step that does not divide that of the next archive"
layout_words (layouts.TooFewPoints place) = codes "no points, or fewer than a step of the next archive spans"
layout_words (layouts.TooLong place) = codes "a retention of more than 4000000000 seconds"
layout_words (layouts.Retention place) = codes "a retention that is not below that of the next archive"
layout_words layouts.TooManyPoints = codes "more than 4000000 points in all"
layout_words layouts.BadFactor = codes "a factor above 1"

-- the archive of which it is told
unfoldable pub archive_of_layout_fault : LayoutFault → Option ℕ
archive_of_layout_fault layouts.NoArchive = None
archive_of_layout_fault (layouts.BadStep place) = Some place
archive_of_layout_fault (layouts.StepOrder place) = Some place
archive_of_layout_fault (layouts.StepDivides place) = Some place
archive_of_layout_fault (layouts.TooFewPoints place) = Some place
archive_of_layout_fault (layouts.TooLong place) = Some place
archive_of_layout_fault (layouts.Retention place) = Some place
archive_of_layout_fault layouts.TooManyPoints = None
archive_of_layout_fault layouts.BadFactor = None

-- ---- heads

-- what is wrong with a head
unfoldable pub fault_words : HeadFault → List ℕ
fault_words heads.Zero = codes "its head is zero, as a crash may leave it"
fault_words heads.Short = codes "it is shorter than its head"
fault_words heads.Method = codes "its first word is no method"
fault_words heads.Count = codes "its number of archives is not 1 to 25"
fault_words (heads.Offset place) = codes "an archive that does not begin where the one before it ends"
fault_words heads.Retention = codes "its retention is not that of its last archive"
fault_words heads.Length = codes "it does not end with its last archive"
fault_words (heads.Layout fault) = layout_words fault

unfoldable pub archive_of_fault : HeadFault → Option ℕ
archive_of_fault heads.Zero = None
archive_of_fault heads.Short = None
archive_of_fault heads.Method = None
archive_of_fault heads.Count = None
archive_of_fault (heads.Offset place) = Some place
archive_of_fault heads.Retention = None
archive_of_fault heads.Length = None
archive_of_fault (heads.Layout fault) = archive_of_layout_fault fault

unfoldable pub damage_advice : List ℕ
damage_advice = codes "put a whole copy in its place while carbon is stopped, or move it away: its metric begins anew"

-- what is to be done with the file
unfoldable pub advice_words : HeadFault → List ℕ
advice_words heads.Zero = codes "it counts as none, and may be removed while carbon is stopped"
advice_words fault = damage_advice
