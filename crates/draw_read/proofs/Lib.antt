pub mod LongLaws
pub mod RoomLaws
pub mod AnswerLaws
