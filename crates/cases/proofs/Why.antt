-- Each message is told what becomes of it.
use mathlib.Core.Path.{refl}
use Rattle.kinds.specs.declared.Kind.TheVariants.{Pod, BassPod, PodPro}
use Rattle.kinds.specs.Kinds.{size_of, has_spare, device_of}
use Rattle.sysex.specs.Forms.{body_length, is_identity, is_our_channel}
use Rattle.sysex.specs.Judging.{has_form, has_program, further_tests, order_of, body_order}
use Rattle.podbox.specs.Settings.{fresh_settings}
use Rattle.podbox.specs.Whole.{is_framed, message_order}
use Rattle.cases.specs.Why.{AllSaid, one_dump, every_dump, lines, bass_lines}

pub as_told : AllSaid Pod lines × AllSaid BassPod bass_lines × AllSaid PodPro lines
unfolding lines bass_lines one_dump every_dump fresh_settings message_order is_framed has_form is_identity is_our_channel further_tests body_length has_program body_order order_of size_of has_spare device_of
as_told = (refl, refl, refl)
