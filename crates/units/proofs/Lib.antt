pub mod TakenApart
pub mod ToldByNumber
