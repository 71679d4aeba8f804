-- numbers of the USB Test and Measurement Class
use Rattle.std.specs.Prelude.{ℕ}

-- the bytes of a bulk header: USBTMC 1.0 table 1
abbrev pub header_size : ℕ
header_size = 12

-- MsgIDs of bulk headers: USBTMC 1.0 table 2
abbrev pub dev_dep_msg_out : ℕ
dev_dep_msg_out = 1

abbrev pub request_dev_dep_msg_in : ℕ
request_dev_dep_msg_in = 2

abbrev pub dev_dep_msg_in : ℕ
dev_dep_msg_in = 2

-- USB488 1.0 table 1
abbrev pub trigger : ℕ
trigger = 128
